-- Whole numbers of small size, as signed machine integers hold them.
-- Assumes nothing.
use mathlib.Core.Path.{◌≡◌, refl}
use mathlib.Core.Bool.{Bool, true, false, cond}
use Prim.Native.Nat.{ℕ, suc, ◌+◌, ◌-◌, ◌≤◌, ◌<◌}
use native.Mathlib.Omega.{arith}
use borrow.Author.Tests.{ltb-true}
use lib.Dec.{ltb}
use lib.IntN.{ℤ, pos, negsuc, nat_abs, ◌+ℤ◌}
use lib.Signed.{mag}
use mir.Syntax.{w64}
use mir.Val.{SFits, to_z, of_z}
use mir.Facts.{to_z-of_z}
use Rattle.anomaly.specs.Amounts.{sized_of}

-- |a + b| is at most |a| + |b|
sub_size : (a b : ℕ) (t : Bool) → ltb a b ≡ t → nat_abs (cond t (negsuc (b - suc a)) (pos (a - b))) ≤ a + b
sub_size a b true e = let h : a < b = ltb-true a b e in omega arith
sub_size a b false e = omega arith

pub size_add : (x y : ℤ) → nat_abs (x +ℤ y) ≤ nat_abs x + nat_abs y
size_add (pos a) (pos b) = omega arith
size_add (pos a) (negsuc b) = sub_size a (suc b) (ltb a (suc b)) refl
size_add (negsuc a) (pos b) = let h = sub_size b (suc a) (ltb b (suc a)) refl in omega arith
size_add (negsuc a) (negsuc b) = omega arith

mag_size : (z : ℤ) → mag z ≤ nat_abs z
mag_size (pos n) = omega arith
mag_size (negsuc n) = omega arith

-- what is written as bits is read back
pub fits : (z : ℤ) → nat_abs z < 4294967296 → SFits w64 z
fits z h = record { sfits = omega (arith, mag_size z) }

pub back : (z : ℤ) → nat_abs z < 4294967296 → to_z w64 (of_z w64 z) ≡ z
back z h = to_z-of_z (fits z h)

-- the size of a number by its sign
pub sized : (z : ℤ) → (sized_of z).size ≡ nat_abs z
sized (pos n) = refl
sized (negsuc n) = refl
