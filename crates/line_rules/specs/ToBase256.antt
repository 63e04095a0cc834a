-- Laws of numbers made of digits to the base 256: the loop that makes one, and that the number tells its digits.
use Rattle.std.specs.Prelude.{◌≡◌, refl, ℕ, zero, suc, ◌+◌, ◌*◌, ◌^◌, ◌<◌, ◌≤◌}
use Rattle.std.proofs.Common.{pow-suc, add-one, arith}
use Rattle.std.proofs.Math.Nat.{pow-le-pow_right}
use Rattle.laws.specs.Sums.{below_suc}
use Rattle.line_rules.specs.Spellings as spellings
use Rattle.line_rules.specs.Spellings.{base256}

pub base256_zero : (f : ℕ → ℕ) → 0 ≡ base256 f 0
unfolding spellings.base256
base256_zero f = refl

pub base256_more : (f : ℕ → ℕ) (i s v : ℕ) → s ≡ base256 f i → v ≡ f i → s * 256 + v ≡ base256 f (i + 1)
unfolding spellings.base256
base256_more f i s v e h = rw (add-one i) (omega arith)

pub base256_end : (f : ℕ → ℕ) (n i s : ℕ) → i ≤ n → n ≤ i → s ≡ base256 f i → s ≡ base256 f n
base256_end f n i s a b e = let h : i ≡ n = omega arith in rw h at e

-- the same digits make the same number, and the same number has the same digits
pub base256_tells : (f g : ℕ → ℕ) (n : ℕ) → ((i : ℕ) → i < n → f i < 256) → ((i : ℕ) → i < n → g i < 256) → base256 f n ≡ base256 g n → (i : ℕ) → i < n → f i ≡ g i
unfolding spellings.base256
base256_tells f g zero a b e i l = absurd (omega arith)
base256_tells f g (suc n) a b e i l =
    let p = a n (omega arith) in
    let q = b n (omega arith) in
    let k : base256 f n ≡ base256 g n = omega arith in
    below_suc (λ i. f i ≡ g i) n (base256_tells f g n (λ i l. a i (omega arith)) (λ i l. b i (omega arith)) k) (omega arith) i l

-- n digits make a number below 256 to the n; eight fit
pub base256_below : (x i v : ℕ) → x < 256 ^ i → v < 256 → x * 256 + v < 256 ^ (i + 1)
base256_below x i v h k = rw (add-one i, pow-suc 256 i) (omega arith)

pub base256_fits : (x i : ℕ) → x < 256 ^ i → i < 8 → x * 256 + 255 < 2 ^ 64
base256_fits x i h l =
    let a = base256_below x i 255 h (omega arith) in
    let b = pow-le-pow_right {n = 256} (omega arith) {i = i + 1} {j = 8} (omega arith) in
    omega arith
