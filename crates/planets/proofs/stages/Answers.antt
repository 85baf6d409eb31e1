use Rattle.std.specs.Prelude.{ℕ, Result, Ok, Err}
use Rattle.std.specs.Result.{result_unwrap_or}
use Rattle.std.proofs.lemmas.Result.{err_from_is_err_and}
use Rattle.refusal.specs.declared.Refusal.{Refusal}
use mathlib.Core.Path.{◌≡◌}
use native.Mathlib.Omega.{arith}
use Rattle.planets.specs.declared.StageList.{StageList}
use Rattle.planets.specs.Jobs.{stages_at, zero_stages, count_of, shown_stages}
use Rattle.planets.proofs.Decoded.{stages_again, small_rows}
use Rattle.planets.proofs.stages.Goals as goal

-- an answer is told by its count and by what is shown of it
whole : (a : Result StageList Refusal) (k : ℕ) → Ok k ≡ count_of a → Ok (record { count = k; stages = (result_unwrap_or a zero_stages).stages }) ≡ a
whole (Ok s) k e = let q : k ≡ s.count = cc in rw q
whole (Err x) k e = let bad : ◌≡◌ {A = ℕ} 0 1 = cc in absurd (omega arith)

none : (a : Result StageList Refusal) (x : Refusal) → Err x ≡ count_of a → Err x ≡ a
none (Ok s) x e = let bad : ◌≡◌ {A = ℕ} 0 1 = cc in absurd (omega arith)
none (Err y) x e = cc

pub stages_of-stages-requires : goal.stages_of-stages-requires
stages_of-stages-requires c = rw c.rows_of.ensures (small_rows c.args.planet)

pub returns-in_err-count : goal.returns-in_err-count
returns-in_err-count c =
    let p = err_from_is_err_and c.from_residual.result c.from_residual.ensures.1 in
    rw (p.1, p.2) (none (stages_at c.args.planet) c.in_err-count.field-0.0 c.in_err-count.ensures)

pub returns : goal.returns
returns c =
    rw (c.stages_of-stages.ensures, c.rows_of.ensures, stages_again (shown_stages c.args.planet).stages)
    (whole (stages_at c.args.planet) c.in_ok-count.count c.in_ok-count.ensures)
