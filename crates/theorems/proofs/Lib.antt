-- A surface beyond its last node: 37; before its first: 36, and what the policy changes there.
pub mod LookupNumbers
pub mod Spans
pub mod ValidRun
pub mod OnValidRun
pub mod BeyondLast
pub mod BeforeFirst
pub mod RejectNamed
pub mod EitherPolicy
-- The search: no better face, and windows within the domain.
pub mod Least
pub mod Chosen
pub mod NoBetterFace
pub mod WindowsInside
-- The fit: its numbers, what a refusal carries and keeps, its search and counts.
pub mod Conditions
pub mod ExactlyWhen
pub mod RefusalCarries
pub mod RefusalKeepsBuffers
pub mod RangeNeverBad
pub mod SearchedAsDefined
pub mod FitCounts
-- Quotes: one number with two contents, and what is kept by the number.
pub mod TwoContents
pub mod KeptByNumber
