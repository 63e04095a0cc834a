-- A source's prices lie on a line: with numbers b, c and r as a heat curve has them, the m-th MWh costs (2b + c·(2m - 1))·r.
-- A purchase has b = 1,000·rate, c = 0, r = 1; what is never moved has zeros.
use Rattle.std.specs.Prelude.{Bool, true, false, ◌≡◌, refl, ℕ, ◌+◌, ◌*◌, ◌-◌, ◌^◌, ◌≤◌, ◌<◌}
use Rattle.std.proofs.Common.{◌∙◌, mul-le-mul_left, arith}
use Rattle.std.proofs.Math.Nat.{mul-le-mul}
use Rattle.cutoff.specs.Lines.{Falls}
use Rattle.merit.specs.PricesRise as PricesRise
use Rattle.merit.specs.PricesRise.{price, curve_price}
use Rattle.rules.specs.declared.Plant.TheVariants.{Unit as U, Purchase as P, Fixed as F}
use Rattle.rules.specs.declared.Unit.{Unit}

-- the price of the m-th MWh
unfoldable pub line_price : (b c r m : ℕ) → ℕ
line_price b c r m = (2 * b + c * (2 * m - 1)) * r

pub record Numbers (b c r : ℕ) : Type 0 where
  pub b_small : b ≤ 999_999_000
  pub c_small : c ≤ 99
  pub r_small : r ≤ 39_996

-- the price of a source's MWh k: down from the level, or above it
abbrev pub price_of : Bool → (ℕ → ℕ) → ℕ → ℕ → ℕ
price_of false f level k = f (level - k)
price_of true f level k = f (level + k + 1)

-- how good a price is: dear when unloading, cheap when crediting
abbrev pub worth : Bool → ℕ → ℕ
worth false x = x
worth true x = 2 ^ 48 - x

-- the line of a source whose m-th MWh costs f m
pub record Lined (up : Bool) (f : ℕ → ℕ) (level one step cap : ℕ) : Type 0 where
  pub falls : Falls one step cap
  pub merits : (k : ℕ) → k < cap → one - (step * k + 1) ≡ worth up (price_of up f level k)
  pub prices : (k : ℕ) → k < cap → price_of up f level k ≤ 2 ^ 48

-- Plants.

pub unit_price : (u : Unit) (m : ℕ) → line_price u.curve.b u.curve.c u.curve.r m ≡ price (U u) m
unfolding line_price PricesRise.curve_price
unit_price u m = refl

pub purchase_price : (g rate m : ℕ) → line_price (1000 * rate) 0 1 m ≡ price (P g rate) m
unfolding line_price
purchase_price g rate m = omega arith

pub fixed_price : (g m : ℕ) → line_price 0 0 0 m ≡ price (F g) m
unfolding line_price
fixed_price g m = omega arith

-- the same prices in other words
pub lined_as : (up : Bool) (f g : ℕ → ℕ) (level one step cap : ℕ) → ((m : ℕ) → f m ≡ g m) → Lined up f level one step cap → Lined up g level one step cap
lined_as false f g level one step cap h s = record {
  falls = s.falls;
  merits = λ k l. s.merits k l ∙ h (level - k);
  prices = λ k l. omega (arith, s.prices k l, h (level - k));
}
lined_as true f g level one step cap h s = record {
  falls = s.falls;
  merits = λ k l. omega (arith, s.merits k l, h (level + k + 1));
  prices = λ k l. omega (arith, s.prices k l, h (level + k + 1));
}

-- Numbers.

pub price_line : (b c r j k : ℕ) → 0 < j → line_price b c r (j + k) ≡ line_price b c r j + 2 * c * r * k
unfolding line_price
price_line b c r j k h =
    let odd : 2 * (j + k) - 1 ≡ (2 * j - 1) + 2 * k = omega arith in
    rw odd (omega arith)

module _ {b c r : ℕ} (s : Numbers b c r) where
  pub level_part : (m : ℕ) → m ≤ 2000 → c * (2 * m - 1) ≤ 400_000
  level_part m h =
      let odd : 2 * m - 1 ≤ 4000 = omega arith in
      omega (arith, mul-le-mul s.c_small odd)

  pub price_small : (m : ℕ) → m ≤ 2000 → line_price b c r m ≤ 2 ^ 47
  unfolding line_price
  price_small m h =
      let x : 2 * b + c * (2 * m - 1) ≤ 2_000_398_000 = omega (arith, level_part m h, s.b_small) in
      omega (arith, mul-le-mul x s.r_small)

  pub step_small : 2 * c * r ≤ 8_000_000
  step_small = omega (arith, mul-le-mul (mul-le-mul_left 2 s.c_small) s.r_small)

  module _ (level cap : ℕ) where
    -- down from the level
    down_at : cap ≤ level → (k : ℕ) → k < cap → line_price b c r level ≡ line_price b c r (level - k) + 2 * c * r * k
    down_at h k l =
        let j : level - k + k ≡ level = omega arith in
        rw j at (price_line b c r (level - k) k (omega arith))

    down_falls : cap ≤ level → level ≤ 2000 → Falls (line_price b c r level + 1) (2 * c * r) cap
    down_falls h m = record {
      cap_small = omega arith;
      step_small = step_small;
      one_small = omega (arith, price_small level m);
      height = λ k l. omega (arith, down_at h k l);
    }

    pub down_lined : cap ≤ level → level ≤ 2000 → Lined false (line_price b c r) level (line_price b c r level + 1) (2 * c * r) cap
    down_lined h m = record {
      falls = down_falls h m;
      merits = λ k l. omega (arith, down_at h k l);
      prices = λ k l. omega (arith, price_small (level - k) (omega arith));
    }

    -- up from the level
    up_at : (k : ℕ) → line_price b c r (level + k + 1) ≡ line_price b c r (level + 1) + 2 * c * r * k
    up_at k =
        let j : level + 1 + k ≡ level + k + 1 = omega arith in
        rw j at (price_line b c r (level + 1) k (omega arith))

    up_falls : 0 < cap → level + cap ≤ 2000 → Falls (2 ^ 48 + 1 - line_price b c r (level + 1)) (2 * c * r) cap
    up_falls z m = record {
      cap_small = omega arith;
      step_small = step_small;
      one_small = omega arith;
      height = λ k l. omega (arith, up_at k, price_small (level + k + 1) (omega arith));
    }

    pub up_lined : 0 < cap → level + cap ≤ 2000 → Lined true (line_price b c r) level (2 ^ 48 + 1 - line_price b c r (level + 1)) (2 * c * r) cap
    up_lined z m = record {
      falls = up_falls z m;
      merits = λ k l. omega (arith, up_at k, price_small (level + k + 1) (omega arith));
      prices = λ k l. omega (arith, price_small (level + k + 1) (omega arith));
    }

    -- of no room
    pub none_lined : (up : Bool) (f : ℕ → ℕ) → cap ≡ 0 → Lined up f level 0 (2 * c * r) cap
    none_lined up f e = record {
      falls = record { cap_small = omega arith; step_small = step_small; one_small = omega arith; height = λ k l. absurd (omega arith) };
      merits = λ k l. absurd (omega arith);
      prices = λ k l. absurd (omega arith);
    }
