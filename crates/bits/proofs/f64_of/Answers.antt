-- `f64_of` meets its contract: its test is `nan_bits_above`. Assumes nothing.
use mathlib.Core.Path.{refl, sym, ◌∙◌}
use borrow.Author.Tests.{lt-ltb, le-ltb}
use Rattle.laws.proofs.Floats.{nan_of, not_nan_of}
use Rattle.bits.proofs.f64_of.Goals as goal

pub returns-then-bits-gt9218868437227405312 : goal.returns-then-bits-gt9218868437227405312
returns-then-bits-gt9218868437227405312 c = nan_of _ refl ∙ sym (nan_of c.args.bits (lt-ltb _ _ c.if-bits-gt9218868437227405312.true))

pub float_from_bits-result : goal.float_from_bits-result
float_from_bits-result c = not_nan_of c.args.bits (le-ltb _ _ c.if-bits-gt9218868437227405312.false)
