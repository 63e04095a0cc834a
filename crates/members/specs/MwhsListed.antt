-- The deliveries' MWh, delivery by delivery.
use Rattle.std.specs.Prelude.{List, ◌≡◌, ℕ, ◌+◌, ◌≤◌, ◌<◌, length, get_or, set}
use Rattle.std.proofs.Common.{◌∙◌, add-one, arith, length-set, get_or-set_same, get_or-set_other}
use Rattle.laws.specs.Sums.{below_suc}
use Rattle.rules.specs.Sequences.{no_delivery}
use Rattle.rules.specs.declared.Delivery.{Delivery}

-- those of the first n
pub record Mwhs (ts : List Delivery) (n : ℕ) (ms : List ℕ) : Type 0 where
  pub long : length ms ≡ 32
  pub mwh : (j : ℕ) → j < n → get_or ms j 0 ≡ (get_or ts j no_delivery).mwh

module _ (ts : List Delivery) (ms : List ℕ) where
  pub mwhs_none : length ms ≡ 32 → Mwhs ts 0 ms
  mwhs_none e = record { long = e; mwh = λ j l. absurd (omega arith) }

  pub mwhs_more : (n : ℕ) → n < 32 → Mwhs ts n ms → Mwhs ts (n + 1) (set ms n (get_or ts n no_delivery).mwh)
  mwhs_more n l m = let x = (get_or ts n no_delivery).mwh in record {
    long = length-set ms n x ∙ m.long;
    mwh = rw (add-one n)
        (below_suc (λ j. get_or (set ms n x) j 0 ≡ (get_or ts j no_delivery).mwh) n
        (λ j k. get_or-set_other ms n j x 0 (λ q. omega arith) ∙ m.mwh j k)
        (get_or-set_same ms n x 0 (omega (arith, m.long))));
  }

  pub mwhs_all : (n j : ℕ) → j ≤ n → n ≤ j → Mwhs ts j ms → Mwhs ts n ms
  mwhs_all n j a b m = let e : j ≡ n = omega arith in rw e at m
