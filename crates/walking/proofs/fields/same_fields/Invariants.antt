use Rattle.std.proofs.Common.{◌≡◌, ℕ, Bool, eqb, List, get_or}
use Rattle.reckoning.specs.Search.{all}
use Rattle.walking.proofs.fields.same_fields.Given as goal

abbrev pub same_at : List ℕ → List ℕ → ℕ → Bool
same_at a b i = eqb (get_or a i 0) (get_or b i 0)

abbrev pub invariant-loop-i : goal.invariant-loop-i
invariant-loop-i l = l.same ≡ all (same_at l.a l.b) l.i
