-- The best of the first m: it is eligible, and it beats every other that is. From the best of the first m comes that of the first m + 1.
use Rattle.std.specs.Prelude.{◌⊎◌, ◌≢◌, ℕ, zero, suc, ◌<◌}
use Rattle.std.proofs.Common.{inl, inr, arith}
use Rattle.std.proofs.Math.Decide.{ℕ_discrete}
use Rattle.laws.specs.Sums.{below_suc}

pub record Best (eligible : ℕ → Type 0) (beats : ℕ → ℕ → Type 0) (m at : ℕ) : Type 0 where
  pub in_range : at < m
  pub room : eligible at
  pub wins : (j : ℕ) → j < m → j ≢ at → eligible j → beats at j

module _ {eligible : ℕ → Type 0} {beats : ℕ → ℕ → Type 0} {m : ℕ} where
  -- one more: it is not eligible, it is beaten, it wins, or it is the only one
  pub best_skip : {at : ℕ} → Best eligible beats m at → (eligible m → ⊥) → Best eligible beats (suc m) at
  best_skip {at} b h = record {
    in_range = omega (arith, b.in_range);
    room = b.room;
    wins = below_suc (λ j. j ≢ at → eligible j → beats at j) m b.wins (λ ne l. absurd (h l));
  }

  pub best_keep : {at : ℕ} → Best eligible beats m at → beats at m → Best eligible beats (suc m) at
  best_keep {at} b h = record {
    in_range = omega (arith, b.in_range);
    room = b.room;
    wins = below_suc (λ j. j ≢ at → eligible j → beats at j) m b.wins (λ ne l. h);
  }

  pub best_take : {at : ℕ} → ((i j k : ℕ) → beats i j → beats j k → beats i k) → Best eligible beats m at → eligible m → beats m at → Best eligible beats (suc m) m
  best_take {at} trans b r h = record {
    in_range = omega arith;
    room = r;
    wins = λ j l ne lj. elim (ℕ_discrete j at) [
      | yes e ↦ rw e h
      | no d ↦ trans m at j h (b.wins j (omega arith) d lj)
    ];
  }

  pub best_only : ((j : ℕ) → j < m → eligible j → ⊥) → eligible m → Best eligible beats (suc m) m
  best_only h r = record { in_range = omega arith; room = r; wins = λ j l ne lj. absurd (h j (omega arith) lj) }

-- where any of the first m is eligible, there is a best
pub best_exists : (eligible : ℕ → Type 0) (beats : ℕ → ℕ → Type 0) → ((i j k : ℕ) → beats i j → beats j k → beats i k) → ((i j : ℕ) → i ≢ j → beats i j ⊎ beats j i) →
    ((i : ℕ) → Dec (eligible i)) → (m : ℕ) → ((j : ℕ) → j < m → eligible j → ⊥) ⊎ ((at : ℕ) × Best eligible beats m at)
best_exists eligible beats trans total dec zero = inl (λ j l. absurd (omega arith))
best_exists eligible beats trans total dec (suc m) = go (dec m) (best_exists eligible beats trans total dec m)
  where
    go : Dec (eligible m) → ((j : ℕ) → j < m → eligible j → ⊥) ⊎ ((at : ℕ) × Best eligible beats m at) → ((j : ℕ) → j < suc m → eligible j → ⊥) ⊎ ((at : ℕ) × Best eligible beats (suc m) at)
    go (yes l) (inl h) = inr (m, best_only h l)
    go (no l) (inl h) = inl (below_suc (λ j. eligible j → ⊥) m h l)
    go (no l) (inr b) = inr (b.0, best_skip b.1 l)
    go (yes l) (inr b) = elim (total b.0 m (λ e. omega (arith, b.1.in_range))) [
      | inl w ↦ inr (b.0, best_keep b.1 w)
      | inr w ↦ inr (m, best_take trans b.1 l w)
    ]
