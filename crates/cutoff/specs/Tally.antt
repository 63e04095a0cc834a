-- The stock is what its name says: w·(2^40 / d + 1) / 2^40 is w / d rounded up, or one less, and one product tells which.
use Rattle.std.specs.Prelude.{◌≡◌, ℕ, ◌+◌, ◌-◌, ◌*◌, ◌/◌, ◌^◌, ◌<◌, ◌≤◌, min, Bool, true, false, List, nat_lt}
use Rattle.std.proofs.Common.{inl, inr, sym, mul-zero, zero-mul, mul-le-mul, mul-le-mul_left, mul-le-mul_right, le-div_iff_mul-le, div-lt_iff_lt-mul, arith}
use Rattle.std.proofs.Math.Path.{refl}
use Rattle.std.proofs.Math.Decide.{dec_lt, dec_le}
use borrow.Author.Tests.{ltb-true, ltb-false, lt-ltb, le-ltb}
use Rattle.laws.specs.Sums.{sum_to_bound, sum_to_zero}
use Rattle.cutoff.specs.Lines.{at, Source, Table, Scaled, Scales, stock, stock_at}
use Rattle.rules.specs.Words.{when◌then◌else◌, sum_to}

-- of the MWh below cap those below q pass the test P, and no other
pub record Counted (P : ℕ → Type 0) (cap q : ℕ) : Type 0 where
  pub within : q ≤ cap
  pub pass : (k : ℕ) → k < q → P k
  pub fail : (k : ℕ) → q ≤ k → k < cap → P k → ⊥

-- the reciprocal v of d: 2^40 < v·d ≤ 2^40 + d
record Reciprocal (d v : ℕ) : Type 0 where
  some : 0 < d
  over : 2 ^ 40 < v * d
  under : v * d ≤ 2 ^ 40 + d

reciprocal : (d : ℕ) → 0 < d → Reciprocal d (2 ^ 40 / d + 1)
reciprocal d d0 =
    let o : 2 ^ 40 / d < 2 ^ 40 / d + 1 = omega arith in
    let s : 2 ^ 40 / d ≤ 2 ^ 40 / d = omega arith in
    let x = (div-lt_iff_lt-mul d0).0 o in
    let y = (le-div_iff_mul-le d0).0 s in
    record { some = d0; over = x; under = omega arith }

module _ (d w v : ℕ) (r : Reciprocal d v) where
  ceil_over : w < (w * v / 2 ^ 40 + 1) * d
  ceil_over = elim (dec_lt w ((w * v / 2 ^ 40 + 1) * d)) [
    | yes l ↦ l
    | no l ↦ (
        let h : (w * v / 2 ^ 40 + 1) * d ≤ w = omega arith in
        let x = mul-le-mul_right v h in
        let m : 2 ^ 40 + 1 ≤ v * d = omega (arith, r.over) in
        let y = mul-le-mul_left (w * v / 2 ^ 40 + 1) m in
        absurd (omega arith))
  ]

  ceil_under : w < 2 ^ 40 → w * v / 2 ^ 40 * d < w + d
  ceil_under ws = elim (dec_lt (w * v / 2 ^ 40 * d) (w + d)) [
    | yes l ↦ l
    | no l ↦ (
        let h : w * v / 2 ^ 40 * 2 ^ 40 ≤ w * v = omega arith in
        let x = mul-le-mul_right d h in
        let y = mul-le-mul_left w r.under in
        let m : w + 1 ≤ 2 ^ 40 = omega arith in
        let z = mul-le-mul_right d m in
        absurd (omega (arith, r.some)))
  ]

-- q is w over the step, rounded up, with w cut off at all there is
counted_slope : (one step cap p w q : ℕ) → 0 < step → w ≡ min (step * cap) (one - p) → w ≤ q * step → q * step < w + step → Counted (λ k. p + step * k < one) cap q
counted_slope one step cap p w q s0 ew lo hi = record {
  within = elim (dec_le q cap) [
    | yes l ↦ l
    | no l ↦ (let h : cap + 1 ≤ q = omega arith in absurd (omega (arith, mul-le-mul_right step h)))
  ];
  pass = λ k l. (let h : k + 1 ≤ q = omega arith in omega (arith, mul-le-mul_right step h));
  fail = λ k l m x. (let h : k + 1 ≤ cap = omega arith in omega (arith, mul-le-mul_right step l, mul-le-mul_right step h));
}

-- of one merit: all, or none
counted_flat : (one step cap p q : ℕ) → step ≡ 0 → (p < one → q ≡ cap) → (one ≤ p → q ≡ 0) → Counted (λ k. p + step * k < one) cap q
counted_flat one step cap p q e all none = record {
  within = elim (dec_lt p one) [ yes l ↦ omega (arith, all l) | no l ↦ omega (arith, none (omega arith)) ];
  pass = λ k l. elim (dec_lt p one) [ yes m ↦ omega (arith, level k) | no m ↦ absurd (omega (arith, none (omega arith))) ];
  fail = λ k l m x. omega (arith, all (omega (arith, level k)));
}
  where
    level : (k : ℕ) → step * k ≡ 0
    level k = rw e (zero-mul k)

module _ {one step span inv cap : ℕ} (s : Source one step span inv cap) where
  slope_small : step * cap ≤ 16_000_000_000
  slope_small = mul-le-mul s.falls.step_small s.falls.cap_small

  product_small : (w : ℕ) → w ≤ span → w * inv ≤ 2 ^ 60
  product_small w l = elim s.shape [
    | inl h ↦ (
        let w1 : w ≤ 1 = omega arith in
        let i1 : inv ≤ 2 ^ 51 = omega (arith, s.falls.cap_small) in
        omega (arith, mul-le-mul w1 i1))
    | inr h ↦ (
        let r = reciprocal step h.0 in
        let a : w ≤ step * cap = omega arith in
        let b = mul-le-mul_right inv a in
        let d : inv * step ≤ 2 ^ 40 + step = rw h.2 r.under in
        let g : 2 ^ 40 + step ≤ 2 ^ 41 = omega (arith, s.falls.step_small) in
        let f = mul-le-mul s.falls.cap_small g in
        omega (arith, mul-le-mul_left cap d))
  ]

  test_small : (w : ℕ) → w ≤ span → w * inv / 2 ^ 40 * step ≤ 2 ^ 60
  test_small w l = elim s.shape [
    | inl h ↦ (let z : w * inv / 2 ^ 40 * step ≡ 0 = rw h.0 (mul-zero (w * inv / 2 ^ 40)) in omega arith)
    | inr h ↦ (
        let r : Reciprocal step inv = rw h.2 (reciprocal step h.0) in
        omega (arith, slope_small, s.falls.step_small, ceil_under step w inv r (omega (arith, slope_small))))
  ]

  pub source_scaled : Scaled step span inv
  source_scaled = record { product = product_small; test = test_small }

  module _ (p w : ℕ) (e : w ≡ min span (one - p)) where
    steps_more : w * inv / 2 ^ 40 * step < w → Counted (λ k. p + step * k < one) cap (w * inv / 2 ^ 40 + 1)
    steps_more l = elim s.shape [
      | inl h ↦ (
          let z : w * inv / 2 ^ 40 * step ≡ 0 = rw h.0 (mul-zero (w * inv / 2 ^ 40)) in
          let w1 : w ≡ 1 = omega arith in
          let m : w * inv ≡ inv = rw w1 (omega arith) in
          counted_flat one step cap p (w * inv / 2 ^ 40 + 1) h.0 (λ a. omega arith) (λ a. absurd (omega arith)))
      | inr h ↦ (
          let r : Reciprocal step inv = rw h.2 (reciprocal step h.0) in
          counted_slope one step cap p w (w * inv / 2 ^ 40 + 1) h.0 (omega arith) (omega (arith, ceil_over step w inv r)) (omega arith))
    ]

    steps_same : w ≤ w * inv / 2 ^ 40 * step → Counted (λ k. p + step * k < one) cap (w * inv / 2 ^ 40)
    steps_same l = elim s.shape [
      | inl h ↦ (
          let z : w * inv / 2 ^ 40 * step ≡ 0 = rw h.0 (mul-zero (w * inv / 2 ^ 40)) in
          let w0 : w ≡ 0 = omega arith in
          let m : w * inv ≡ 0 = rw w0 (zero-mul inv) in
          counted_flat one step cap p (w * inv / 2 ^ 40) h.0 (λ a. omega arith) (λ a. omega arith))
      | inr h ↦ (
          let r : Reciprocal step inv = rw h.2 (reciprocal step h.0) in
          counted_slope one step cap p w (w * inv / 2 ^ 40) h.0 (omega arith) l (ceil_under step w inv r (omega (arith, slope_small))))
    ]

    steps_counted : (b : Bool) → nat_lt (w * inv / 2 ^ 40 * step) w ≡ b → Counted (λ k. p + step * k < one) cap (when b then w * inv / 2 ^ 40 + 1 else w * inv / 2 ^ 40)
    steps_counted true t = steps_more (ltb-true _ _ t)
    steps_counted false t = steps_same (ltb-false _ _ t)

  -- the stock is the number of MWh with a merit of at least p
  pub stock_counted : (p : ℕ) → Counted (λ k. p + step * k < one) cap (stock one step span inv p)
  unfolding stock
  stock_counted p = steps_counted p (min span (one - p)) refl (nat_lt (min span (one - p) * inv / 2 ^ 40 * step) (min span (one - p))) refl

-- as the code finds it
module _ (one step span inv p w : ℕ) (e : w ≡ min span (one - p)) where
  pub stock_more : w * inv / 2 ^ 40 * step < w → w * inv / 2 ^ 40 + 1 ≡ stock one step span inv p
  unfolding stock
  stock_more h = rw (← e, lt-ltb (w * inv / 2 ^ 40 * step) w h)

  pub stock_same : w ≤ w * inv / 2 ^ 40 * step → w * inv / 2 ^ 40 ≡ stock one step span inv p
  unfolding stock
  stock_same h = rw (← e, le-ltb (w * inv / 2 ^ 40 * step) w h)

-- of a source that begins at or below the mark, nothing
pub stock_none : (one step span inv p : ℕ) → one ≤ p → stock one step span inv p ≡ 0
stock_none one step span inv p h =
    let z : 0 * inv ≡ 0 = zero-mul inv in
    sym (rw z at (stock_same one step span inv p 0 (omega arith) (omega arith)))

pub stock_few : (one : ℕ) {step span inv : ℕ} → Scaled step span inv → (p : ℕ) → stock one step span inv p ≤ 2 ^ 20 + 1
unfolding stock
stock_few one {step} {span} {inv} s p = go (min span (one - p)) (omega arith) (nat_lt (min span (one - p) * inv / 2 ^ 40 * step) (min span (one - p)))
  where
    go : (w : ℕ) → w ≤ span → (b : Bool) → (when b then w * inv / 2 ^ 40 + 1 else w * inv / 2 ^ 40) ≤ 2 ^ 20 + 1
    go w l true = omega (arith, s.product w l)
    go w l false = omega (arith, s.product w l)

-- All sources together.

pub table_scales : {one step span inv cap : List ℕ} {n : ℕ} → Table one step span inv cap n → Scales step span inv n
table_scales t = record { n_small = t.n_small; scaled = λ i l. source_scaled (t.source i l) }

pub supply_few : (one : List ℕ) {step span inv : List ℕ} {n : ℕ} → Scales step span inv n → (p i : ℕ) → i ≤ n → sum_to (stock_at one step span inv p) i ≤ 2 ^ 26
supply_few one {step} {span} {inv} s p i l =
    omega (arith, sum_to_bound (stock_at one step span inv p) (2 ^ 20 + 1) i (λ j m. stock_few (at one j) (s.scaled j (omega arith)) p), s.n_small)

-- no merit is above the first mark
pub supply_none : {one step span inv cap : List ℕ} {n : ℕ} → Table one step span inv cap n → sum_to (stock_at one step span inv (2 ^ 48 + 1)) n ≡ 0
supply_none {one} {step} {span} {inv} {n = n} t =
    sum_to_zero n (stock_at one step span inv (2 ^ 48 + 1)) (λ i l. stock_none (at one i) (at step i) (at span i) (at inv i) (2 ^ 48 + 1) (t.source i l).falls.one_small)
