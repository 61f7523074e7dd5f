-- A yes or no that is converted to a number is its flag. Assumes nothing.
use mathlib.Core.Path.{◌≡◌, refl}
use mathlib.Core.Bool.{Bool, true, false}
use mir.Val.{bool_byte}
use Rattle.rows.specs.Flag.{flag}

pub bool_byte_is : (b : Bool) → bool_byte b ≡ flag b
bool_byte_is true = refl
bool_byte_is false = refl
