-- The law of conjunctions, over any P, any number K and whether it is halved (specs/Law).
-- Assumes nothing.
use mathlib.Core.Path.{◌≡◌, ◌∙◌, refl, sym, ap}
use mathlib.Core.Logic.{◌⊎◌, inl, inr, ⊎_elim}
use mathlib.Core.Bool.{Bool, true, false}
use Prim.Native.Nat.{ℕ, zero, suc, ◌+◌, ◌-◌, ◌*◌, ◌/◌, ◌%◌, ◌≤◌, ◌<◌}
use native.Mathlib.Omega.{arith}
use native.Mathlib.Nat.{div-add-mod', mod-lt, mul-le-mul_right}
use borrow.Author.Tests.{eqb-true, le-leb, lt-leb, eq-eqb, ne_eqb}
use lib.Dec.{eqb}
use Rattle.reckoning.specs.Search.{pick, times}
use Rattle.reckoning.proofs.Searches.{le_or_lt}
use Rattle.planets.specs.declared.Apparition.{Apparition}
use Rattle.planets.specs.Conjunctions.{turned, interval, following, rest, remaining, takes_half, less_half, kind_from, time, kind, conjunction_of}
use Rattle.planets.specs.Law.{SoundPeriod, kind_at, From, Same, ordinal, Comes, OfYear}

-- an odd ordinal is a morning one's, an even one an evening one's
odd_morning : (q : ℕ) → kind_at true (2 * q + 1) ≡ Apparition.Morning
odd_morning q = rw (eq-eqb ((2 * q + 1) % 2) 1 (omega arith))

even_evening : (q : ℕ) → kind_at true (2 * q + 2) ≡ Apparition.Evening
even_evening q = rw (ne_eqb ((2 * q + 2) % 2) 1 (omega arith))

-- what comes is after the solstice, or at it with an odd number
ahead : (a b s : ℕ) → From (kind_at true s) a b → (a < b) ⊎ ((s % 2 ≡ 1) × (a ≤ b))
ahead a b s c = go (eqb (s % 2) 1) refl c
  where
    go : (t : Bool) → eqb (s % 2) 1 ≡ t → From (pick t Apparition.Morning Apparition.Evening) a b → (a < b) ⊎ ((s % 2 ≡ 1) × (a ≤ b))
    go true e c = inr (eqb-true (s % 2) 1 e, c)
    go false e c = inl c

-- FOUND: year y's conjunction is number s, of kind κ, t after the solstice, and no earlier one comes
record Found (P K : ℕ) (halved : Bool) (y : ℕ) : Type 0 where
  s : ℕ
  t : ℕ
  κ : Apparition
  ordinal_is : ordinal P K halved y ≡ s
  time_is : time P K halved y ≡ t
  kind_is : kind P K halved y ≡ κ
  kind_at_lem : kind_at halved s ≡ κ
  stands : y * P + t ≡ s * interval K halved
  from : 1 ≤ s
  comes : From κ (y * P) (s * interval K halved)
  first : (n : ℕ) → From (kind_at halved n) (y * P) (n * interval K halved) → s ≤ n

module _ (P K y : ℕ) where
  -- not halved
  whole : SoundPeriod K false → Found P K false y
  unfolding time kind less_half kind_from takes_half remaining rest ordinal
  whole n =
      let d = div-add-mod' (y * P) K in
      let r = mod-lt (y * P) n.positive in
      record {
        s = y * P / K + 1;
        t = K - y * P % K;
        κ = Apparition.Neither;
        ordinal_is = refl;
        time_is = refl;
        kind_is = refl;
        kind_at_lem = refl;
        stands = omega (arith, d, r);
        from = omega arith;
        comes = omega (arith, d, r);
        first = λ n c. ⊎_elim (λ (h : y * P / K + 1 ≤ n). h) (λ (h : n < y * P / K + 1). absurd (omega (arith, d, c, mul-le-mul_right K h))) (le_or_lt (y * P / K + 1) n);
      }

  module _ (n : SoundPeriod K true) where
    -- K is twice its half, and so many times K is twice as many times the half
    halves : (K ≡ 2 * (K / 2)) × (y * P / K * K ≡ y * P / K * (2 * (K / 2)))
    halves = let e : K ≡ 2 * (K / 2) = omega (arith, n.even tt) in (e, ap (λ (x : ℕ). y * P / K * x) e)

    morning : y * P % K ≤ K / 2 → Found P K true y
    unfolding time kind less_half kind_from takes_half remaining rest ordinal
    morning h =
        let d = div-add-mod' (y * P) K in
        let m = halves in
        let less = le-leb (y * P % K) (K / 2) h in
        let more = le-leb (K / 2) (K - y * P % K) (omega arith) in
        record {
          s = 2 * (y * P / K) + 1;
          t = K - y * P % K - K / 2;
          κ = Apparition.Morning;
          ordinal_is = rw less;
          time_is = rw more;
          kind_is = rw more;
          kind_at_lem = odd_morning (y * P / K);
          stands = omega arith;
          from = omega arith;
          comes = omega arith;
          first = λ i c. ⊎_elim (λ (g : 2 * (y * P / K) + 1 ≤ i). g) (λ (g : i < 2 * (y * P / K) + 1).
              ⊎_elim
              (λ (a : y * P < i * (K / 2)). absurd (omega (arith, mul-le-mul_right (K / 2) g)))
              (λ (a : (i % 2 ≡ 1) × (y * P ≤ i * (K / 2))).
              let two : i + 2 ≤ 2 * (y * P / K) + 1 = omega arith in
              absurd (omega (arith, mul-le-mul_right (K / 2) two, n.positive)))
              (ahead (y * P) (i * (K / 2)) i c)) (le_or_lt (2 * (y * P / K) + 1) i);
        }

    evening : K / 2 < y * P % K → Found P K true y
    unfolding time kind less_half kind_from takes_half remaining rest ordinal
    evening h =
        let d = div-add-mod' (y * P) K in
        let r = mod-lt (y * P) n.positive in
        let m = halves in
        let more = lt-leb (y * P % K) (K / 2) h in
        let less = lt-leb (K / 2) (K - y * P % K) (omega arith) in
        record {
          s = 2 * (y * P / K) + 2;
          t = K - y * P % K;
          κ = Apparition.Evening;
          ordinal_is = rw more;
          time_is = rw less;
          kind_is = rw less;
          kind_at_lem = even_evening (y * P / K);
          stands = omega arith;
          from = omega arith;
          comes = omega arith;
          first = λ i c. ⊎_elim (λ (g : 2 * (y * P / K) + 2 ≤ i). g) (λ (g : i < 2 * (y * P / K) + 2).
              ⊎_elim
              (λ (a : y * P < i * (K / 2)). absurd (omega (arith, mul-le-mul_right (K / 2) g)))
              (λ (a : (i % 2 ≡ 1) × (y * P ≤ i * (K / 2))). absurd (omega (arith, mul-le-mul_right (K / 2) g)))
              (ahead (y * P) (i * (K / 2)) i c)) (le_or_lt (2 * (y * P / K) + 2) i);
        }

found : (P K : ℕ) (halved : Bool) → SoundPeriod K halved → (y : ℕ) → Found P K halved y
found P K false n y = whole P K y n
found P K true n y = ⊎_elim (λ h. morning P K y n h) (λ h. evening P K y n h) (le_or_lt (y * P % K) (K / 2))

-- the kind turns from each number to the following
pub turns : (halved : Bool) (s : ℕ) → turned (kind_at halved s) ≡ kind_at halved (suc s)
turns false s = refl
turns true s = ⊎_elim
    (λ (h : 1 ≤ s % 2). rw (eq-eqb (s % 2) 1 (omega arith), ne_eqb (suc s % 2) 1 (omega arith)))
    (λ (h : s % 2 < 1). rw (ne_eqb (s % 2) 1 (omega arith), eq-eqb (suc s % 2) 1 (omega arith)))
    (le_or_lt 1 (s % 2))

interval_positive : (K : ℕ) (halved : Bool) → SoundPeriod K halved → 0 < interval K halved
interval_positive K false n = n.positive
interval_positive K true n = omega (arith, n.positive, n.even tt)

after : (κ : Apparition) {a b : ℕ} → a < b → From κ a b
after Apparition.Morning h = omega arith
after Apparition.Evening h = h
after Apparition.Neither h = h

-- what comes at a later solstice comes at an earlier one
sooner : (κ : Apparition) (a b c : ℕ) → a ≤ b → From κ b c → From κ a c
sooner Apparition.Morning a b c h f = omega arith
sooner Apparition.Evening a b c h f = omega arith
sooner Apparition.Neither a b c h f = omega arith

module _ (P K : ℕ) (halved : Bool) (n : SoundPeriod K halved) where
  stands : (y : ℕ) → y * P + time P K halved y ≡ ordinal P K halved y * interval K halved
  stands y = let f = found P K halved n y in rw (f.ordinal_is, f.time_is) f.stands

  kind_at_lem : (y : ℕ) → kind P K halved y ≡ kind_at halved (ordinal P K halved y)
  kind_at_lem y = let f = found P K halved n y in rw (f.ordinal_is, f.kind_is) (sym f.kind_at_lem)

  from : (y : ℕ) → 1 ≤ ordinal P K halved y
  from y = let f = found P K halved n y in rw f.ordinal_is f.from

  comes : (y : ℕ) → Comes P K halved y (ordinal P K halved y)
  comes y = let f = found P K halved n y in rw (f.ordinal_is, f.kind_at_lem) f.comes

  first : (y s : ℕ) → Comes P K halved y s → ordinal P K halved y ≤ s
  first y s c = let f = found P K halved n y in rw f.ordinal_is (f.first s c)

  never_falls : (y z : ℕ) → y ≤ z → ordinal P K halved y ≤ ordinal P K halved z
  never_falls y z h =
      let s : ℕ = ordinal P K halved z in
      first y s (sooner (kind_at halved s) (y * P) (z * P) (s * interval K halved) (mul-le-mul_right P h) (comes z))

  one : ordinal P K halved 0 ≡ 1
  one = omega (arith, from 0, first 0 1 (after (kind_at halved 1) (omega (arith, interval_positive K halved n))))

  -- i steps on from year 1's conjunction stands conjunction i + 1
  reach : (i : ℕ) → ((times i (following K halved) (conjunction_of P K halved 0)).instant ≡ suc i * interval K halved) × ((times i (following K halved) (conjunction_of P K halved 0)).kind ≡ kind_at halved (suc i))
  unfolding times following conjunction_of
  reach zero = (rw (stands 0, one) refl, rw (kind_at_lem 0, one) refl)
  reach (suc i) = let r = reach i in (omega (arith, r.0), rw r.1 (turns halved (suc i)))

  chain : (y : ℕ) → Same (times (ordinal P K halved y - 1) (following K halved) (conjunction_of P K halved 0)) (conjunction_of P K halved y)
  unfolding conjunction_of
  chain y =
      let r = reach (ordinal P K halved y - 1) in
      let e : suc (ordinal P K halved y - 1) ≡ ordinal P K halved y = omega (arith, from y) in
      record {
        instant = r.0 ∙ ap (λ (s : ℕ). s * interval K halved) e ∙ sym (stands y);
        kind = r.1 ∙ ap (λ (s : ℕ). kind_at halved s) e ∙ sym (kind_at_lem y);
      }

  -- THE LAW: of any P, any number K and whether it is halved, in every year
  pub each_year : (y : ℕ) → OfYear P K halved y
  unfolding conjunction_of
  each_year y =
      record {
        stands = stands y;
        since = stands y;
        kind = kind_at_lem y;
        counted = from y;
        comes = comes y;
        least = first y;
        chain = chain y;
        never_falls = never_falls y;
      }
