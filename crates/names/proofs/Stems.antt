-- The sixty stem and branch names as a list: each label from it is the stem and the branch of its day.
-- Assumes nothing.
use mathlib.Core.Path.{◌≡◌, refl, ap, ◌∙◌}
use mathlib.Core.List.{flatten}
use Prim.Native.Nat.{ℕ, suc, ◌-◌, ◌*◌, ◌%◌}
use native.Mathlib.Omega.{arith}
use native.Mathlib.Nat.{zero-add, dvd-mul_right, mod-mod_of_dvd}
use lib.Dec.{T}
use lib.ListN.{length}
use Rattle.reckoning.specs.Search.{list_from}
use Rattle.reckoning.proofs.Searches.{between_low, between_high}
use Rattle.lunisolar.specs.Sixty.{sixty, sexagenary_of}
use Rattle.names.specs.Names.{name_bytes, list_bytes, Bytes, size, in_sixty, label_of}
use Rattle.names.specs.Ganzhi.{ganzhi_of, ganzhi}
use Rattle.names.proofs.Labels.{house_otherwise, day_in_sixty}
use Rattle.names.proofs.Chunks.{chunk, chunk_of_joined}

-- IT IS A LIST OF 360 BYTES
pub ganzhi_size : length ganzhi ≡ list_bytes
unfolding ganzhi list_from flatten
ganzhi_size = refl

-- its i-th name, counted from 1, is that of day i − 1, counted from 0
pub ganzhi_name : (i : ℕ) → T (in_sixty i) → chunk name_bytes ganzhi (i - 1) ≡ ganzhi_of (i - 1)
unfolding ganzhi
ganzhi_name i d =
    chunk_of_joined name_bytes ganzhi_of (λ k. refl) sixty 0 (i - 1) (omega (arith, between_low 1 i (suc sixty) d, between_high 1 i (suc sixty) d))
    ∙ ap ganzhi_of (zero-add (i - 1))

-- the names come again after sixty days
pub ganzhi_again : (d : ℕ) → ganzhi_of (d % sixty) ≡ ganzhi_of d
ganzhi_again d = rw (mod-mod_of_dvd 10 {b = sixty} d (dvd-mul_right 10 6), mod-mod_of_dvd 12 {b = sixty} d (dvd-mul_right 12 5)) refl

-- LENT AS THE HOUSE'S LIST, WITH NO LIST OF THEIRS, IT LABELS EVERY DAY WITH THE DAY'S STEM AND BRANCH
pub day_label : (d : ℕ) (theirs house : Bytes) → ¬ (size theirs ≡ list_bytes) → house.contents ≡ ganzhi → (label_of (sexagenary_of d) theirs house).contents ≡ ganzhi_of d
day_label d theirs house n e =
    let i : ℕ = sexagenary_of d in
    let w : name_bytes * i - name_bytes * (i - 1) ≡ name_bytes = omega arith in
    let k : i - 1 ≡ d % sixty = omega arith in
    ap (λ (s : Bytes). s.contents) (house_otherwise i theirs house (day_in_sixty d) n (ap length e ∙ ganzhi_size))
    ∙ rw (w, e) (ganzhi_name i (day_in_sixty d))
    ∙ ap ganzhi_of k
    ∙ ganzhi_again d
