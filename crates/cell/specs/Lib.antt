-- What a cell is, and Lent, what the public `inner_on` makes of lent room. Shared, the code's way to a face's point, and Inner, what it hands its inner functions, are for their contracts alone.
pub mod Least
pub mod Cell
pub mod Choice
pub mod Shared
pub mod Lent
pub mod Inner
