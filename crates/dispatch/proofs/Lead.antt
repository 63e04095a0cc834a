-- The invariant of `choose`: the best of the sources passed, and the least number that takes its place.
use mathlib.Core.Bool.{Bool, true, false}
use mathlib.Core.List.{List}
use mathlib.Core.Logic.{◌⊎◌, inl, inr}
use mathlib.Core.Path.{◌≡◌, refl}
use Prim.Native.Nat.{ℕ, ◌+◌, ◌≤◌, ◌<◌}
use native.Mathlib.Decide.{dec_lt}
use native.Mathlib.Numerals.{add-one}
use native.Mathlib.Omega.{arith}
use Rattle.dispatch.specs.Taken.{First, first_strict, Highest}
use Rattle.laws.specs.Sums.{below_suc}
use Rattle.cutoff.specs.Lines.{at}
use Rattle.merit.specs.Best.{Best, best_skip, best_keep, best_take, best_only}
use Rattle.merit.specs.Settled.{More, more_strict, Beats, beats_trans}

-- at a tie the later source takes the place when crediting, and the earlier keeps it when unloading
abbrev pub Inc : Bool → ℕ → Type 0
Inc up inc = ((up ≡ true) × (inc ≡ 0)) ⊎ ((up ≡ false) × (inc ≡ 1))

keeps : (up : Bool) (inc : ℕ) → Inc up inc → (a p z q : ℕ) → a < z → q < p + inc → Beats More (First up) a p z q
keeps up inc (inl e) a p z q l h = inl (omega (arith, e.1))
keeps up inc (inr e) a p z q l h = elim (dec_lt q p) [ yes m ↦ inl m | no m ↦ inr (omega (arith, e.1), rw e.0 l) ]

takes : (up : Bool) (inc : ℕ) → Inc up inc → (a p z q : ℕ) → a < z → p + inc ≤ q → Beats More (First up) z q a p
takes up inc (inr e) a p z q l h = inl (omega (arith, e.1))
takes up inc (inl e) a p z q l h = elim (dec_lt p q) [ yes m ↦ inl m | no m ↦ inr (omega (arith, e.1), rw e.0 l) ]

module _ (up : Bool) (inc : ℕ) (left : List ℕ) (n : ℕ) where
  pub record Lead (best bar i : ℕ) : Type 0 where
    pub within : i ≤ n
    pub so_far : ((bar ≡ 1) × (best ≡ n) × ((j : ℕ) → j < i → at left j ≡ 0))
        ⊎ ((bar ≡ at left best + inc) × Best (λ j. 0 < at left j) (λ i j. Beats More (First up) i (at left i) j (at left j)) i best)

module _ (up : Bool) (inc : ℕ) (left : List ℕ) (n : ℕ) where
  pub lead_start : Lead up inc left n n 1 0
  lead_start = record { within = omega arith; so_far = inl (refl, refl, λ j l. absurd (omega arith)) }

  pub lead_keep : (best bar i : ℕ) → Inc up inc → Lead up inc left n best bar i → i < n → at left i < bar → Lead up inc left n best bar (i + 1)
  lead_keep best bar i w s l h = rw (add-one i) (record {
    within = omega arith;
    so_far = elim s.so_far [
      | inl f ↦ inl (f.0, f.1, below_suc (λ j. at left j ≡ 0) i f.2 (omega (arith, f.0)))
      | inr b ↦ inr (
        b.0,
        elim (dec_lt 0 (at left i)) [
          | no r ↦ best_skip b.1 r
          | yes r ↦ best_keep b.1 (keeps up inc w best (at left best) i (at left i) b.1.in_range (omega (arith, b.0)))
        ],
      )
    ];
  })

  pub lead_take : (best bar i : ℕ) → Inc up inc → Lead up inc left n best bar i → i < n → bar ≤ at left i → Lead up inc left n i (at left i + inc) (i + 1)
  lead_take best bar i w s l h =
      let r : 0 < at left i = elim s.so_far [ inl f ↦ omega (arith, f.0) | inr b ↦ omega (arith, b.0, b.1.room) ] in
      rw (add-one i) (record {
        within = omega arith;
        so_far = inr (
          refl,
          elim s.so_far [
            | inl f ↦ best_only (λ j k y. omega (arith, f.2 j k)) r
            | inr b ↦ best_take
                (λ i j k. beats_trans More (First up) more_strict (first_strict up) n (at left) (λ i k. k) i (at left i) j (at left j) k (at left k))
                b.1 r (takes up inc w best (at left best) i (at left i) b.1.in_range (omega (arith, b.0)))
          ],
        );
      })

  pub lead_end : (best bar i : ℕ) → Lead up inc left n best bar i → n ≤ i → Highest up left n best
  lead_end best bar i s h =
      let e : i ≡ n = omega (arith, s.within) in
      elim s.so_far [
        | inl f ↦ record { none = λ _. rw e at f.2; some = λ l. absurd (omega (arith, f.1)); within = omega (arith, f.1) }
        | inr w ↦ record { none = λ x. absurd (omega (arith, w.1.in_range)); some = λ _. rw e at w.1; within = omega (arith, w.1.in_range) }
      ]
