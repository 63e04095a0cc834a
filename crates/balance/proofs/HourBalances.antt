-- The balance is kept by each group, and so by all groups of an hour.
use Rattle.std.specs.Prelude.{true, false, ◌≡◌, ℕ, ◌<◌, pos, ◌+ℤ◌}
use mathlib.Core.List.{List, ◌∷◌, ◌++◌}
use Rattle.std.proofs.Common.{ap, ◌∙◌, arith}
use Rattle.balance.specs.Accounts.{direct, incremental, whole}
use Rattle.balance.specs.SharesMakeUpTheAmount.{shares_sum}
use Rattle.balance.specs.TakenAndLeft.{left}
use Rattle.balance.proofs.TakenAndLeft.{group_left}
use Rattle.laws.specs.Keys.{key_same, among, among_first, among_later, first_once, Turns}
use Rattle.laws.specs.Signed.{value, sumℤ, sumℤ_carried}
use Rattle.merit.specs.LevelNeverBelowB.{state_at, percents, Directed, Moved, moved_sound}
use Rattle.merit.specs.RemainderMoves.{shift_moved, remainder_moves}
use Rattle.rules.specs.Group.{Amount, Item, amount}
use Rattle.rules.specs.Hour.{key_at, member, share, Progress, shared, groups, opening}
use Rattle.rules.specs.Refusals.{accepted}
use Rattle.rules.specs.declared.Hour.{Hour}
use Rattle.rules.specs.declared.Key.{Key}
use Rattle.rules.specs.declared.Running.{Running}
use Rattle.balance.specs.HourBalances.{Given, after_lines, Grouped, groups_keep, shared_adds, shared_keeps, awaits, awaits_other, Balanced, lines_left, lines_directed, start_balanced}

module _ (h : Hour) (ks : List Key) where
  -- a group with members
  pub grouped_balanced : (x : Key) (xs : List Key) (p q : Progress) → Turns ks h.ndeliveries (x ∷ xs) → Balanced h ks (x ∷ xs) p → Grouped h ks x p q → Balanced h ks xs q
  grouped_balanced x xs p q t b g =
      rw g.is
      (record {
        sound = λ i. moved_sound _ _ (d i).took.sound (m i);
        plant = λ i. ap (λ (y : Running). y.plant) (m i).is ∙ (d i).took.plant ∙ b.plant i;
        percent = λ i. let e = ap (λ (y : Running). y.percent) (m i).is in omega (arith, e, (d i).percent, lines_left h ks x xs i h.ndirects once, b.percent i);
        untouched = λ j i item y. shared_keeps h ks x ss ts us p.cells j i item (awaits_other h ks x xs j once y) ∙ b.untouched j i item (among_later x xs (key_at ks j) y);
        closes = λ a i. column i (direct a) (incremental a) (left a (state_at us i)) (left a (state_at ss i)) _ (group_left a (state_at ss i) (state_at ts i) (state_at us i) (b.sound i) (d i).took (m i)) (b.closes a i);
      })
    where
      once : among xs x ≡ false
      once = first_once x xs t.ordered

      -- a member awaits its group
      own : (j : ℕ) → member ks x j ≡ true → awaits h ks (x ∷ xs) j ≡ true
      own j e = rw (key_same (key_at ks j) x e) (among_first x xs)

      ss : List Running
      ss = p.states

      ts : List Running
      ts = after_lines h ks x p

      us : List Running
      us = g.us

      d : (i : ℕ) → Directed (percents (member ks x) h.directs i h.ndirects) (state_at ss i) (state_at ts i)
      d = lines_directed h ks x xs p once b

      m : (i : ℕ) → Moved (state_at ts i) (state_at us i)
      m i = shift_moved (d i).took.sound ((remainder_moves _ _ _ _ ts us g.done).each i)

      part : (i : ℕ) (item : Item) → Amount
      part i item = amount item (state_at ss i) (state_at ts i) (state_at us i)

      adds : (i : ℕ) (item : Item) (j : ℕ) → j < h.ndeliveries → shared h ks x ss ts us p.cells j i item ≡ p.cells j i item +ℤ share h ks x (part i item) j
      adds i item j y = shared_adds h ks x ss ts us p.cells j i item (λ z. b.untouched j i item (own j z))

      column : (i : ℕ) (v w : Item) (after before whole : ℕ) →
          (value (part i v) +ℤ value (part i w)) +ℤ pos after ≡ pos before →
          sumℤ (λ j. p.cells j i v +ℤ p.cells j i w) h.ndeliveries +ℤ pos before ≡ pos whole →
          sumℤ (λ j. shared h ks x ss ts us p.cells j i v +ℤ shared h ks x ss ts us p.cells j i w) h.ndeliveries +ℤ pos after ≡ pos whole
      column i v w after before whole y z =
          sumℤ_carried h.ndeliveries (λ j. p.cells j i v) (λ j. p.cells j i w) (share h ks x (part i v)) (share h ks x (part i w))
          (λ j. shared h ks x ss ts us p.cells j i v) (λ j. shared h ks x ss ts us p.cells j i w)
          (value (part i v)) (value (part i w)) after before whole (adds i v) (adds i w)
          (shares_sum h ks x (part i v) g.members) (shares_sum h ks x (part i w) g.members) y z

  pub groups_balanced : Given h → (ys xs : List Key) → Turns ks h.ndeliveries (ys ++ xs) → (q : Progress) → groups h ks ys (opening h) ≡ accepted q → Balanced h ks xs q
  groups_balanced g ys xs t q e = groups_keep h ks (Balanced h ks) grouped_balanced ys xs (opening h) q t (start_balanced h ks g (ys ++ xs)) e
