-- "Members .. each split by schedule": the members' shares of an amount make up the amount, and who is no member has no share.
-- No share is greater than the amount.
use Rattle.std.specs.Prelude.{false, List, ◌≡◌, ℕ, suc, ◌+◌, ◌-◌, ◌≤◌, ◌<◌, pos, get_or}
use Rattle.std.proofs.Math.Path.{refl, sym, ap}
use Rattle.std.proofs.Common.{◌∙◌}
use native.Mathlib.Omega.{arith}
use Rattle.laws.specs.Signed.{value, sumℤ, signed_zero, sumℤ_increases}
use Rattle.laws.specs.Parts.{up_to_start, up_to_grows, up_to_all, up_to_most}
use Rattle.laws.specs.Sums.{sum_to_grows, sum_to_longer}
use Rattle.rules.specs.Group.{Amount, signed, up_to}
use Rattle.rules.specs.Hour.{member, scheduled, counted, share}
use Rattle.rules.specs.Sequences.{no_delivery}
use Rattle.rules.specs.Words.{when◌then◌else◌, sum_to}
use Rattle.rules.specs.declared.Hour.{Hour}
use Rattle.rules.specs.declared.Key.{Key}

module _ (h : Hour) (ks : List Key) (x : Key) where
  -- what the members among the first j have
  unfoldable share_to : ℕ → ℕ → ℕ
  share_to size j = up_to (scheduled h ks x h.ndeliveries) size (counted ks x j) (scheduled h ks x j)

  share_to_zero : (size : ℕ) → share_to size 0 ≡ 0
  unfolding share_to sum_to
  share_to_zero size = sym (up_to_start (scheduled h ks x h.ndeliveries) size)

  share_to_grows : (size j : ℕ) → share_to size j ≤ share_to size (suc j)
  unfolding share_to
  share_to_grows size j =
      up_to_grows (scheduled h ks x h.ndeliveries) size (counted ks x j) (scheduled h ks x j) (counted ks x (suc j)) (scheduled h ks x (suc j))
      (sum_to_grows (λ i. when member ks x i then 1 else 0) j) (sum_to_grows (λ i. when member ks x i then (get_or h.deliveries i no_delivery).mwh else 0) j)

  share_to_all : (size : ℕ) → 0 < counted ks x h.ndeliveries → share_to size h.ndeliveries ≡ size
  unfolding share_to
  share_to_all size l = let t = scheduled h ks x h.ndeliveries in sym (up_to_all t size (counted ks x h.ndeliveries) t refl l)

  share_to_most : (size j : ℕ) → j ≤ h.ndeliveries → share_to size j ≤ size
  unfolding share_to
  share_to_most size j l =
      up_to_most (scheduled h ks x h.ndeliveries) size (counted ks x j) (scheduled h ks x j)
      (sum_to_longer (λ i. when member ks x i then (get_or h.deliveries i no_delivery).mwh else 0) j h.ndeliveries l)

  -- the shares make up the amount
  pub shares_sum : (a : Amount) → 0 < counted ks x h.ndeliveries → sumℤ (share h ks x a) h.ndeliveries ≡ value a
  unfolding share share_to
  shares_sum a l =
      sumℤ_increases a.minus (share_to a.size) (share_to_zero a.size) (share_to_grows a.size) h.ndeliveries ∙ ap (signed a.minus) (share_to_all a.size l)

  pub share_none : (a : Amount) (j : ℕ) → member ks x j ≡ false → share h ks x a j ≡ pos 0
  unfolding share sum_to
  share_none a j e =
      let c : counted ks x j + 0 ≡ counted ks x j = omega arith in
      let m : scheduled h ks x j + 0 ≡ scheduled h ks x j = omega arith in
      let z : (y : ℕ) → y - y ≡ 0 = λ y. omega arith in
      rw (e, c, m, z) (signed_zero a.minus)

  pub share_most : (a : Amount) (j : ℕ) → j < h.ndeliveries → (y : ℕ) × (share h ks x a j ≡ signed a.minus y) × (y ≤ a.size)
  unfolding share share_to
  share_most a j l = (share_to a.size (suc j) - share_to a.size j, refl, omega (arith, share_to_most a.size (suc j) l))
