-- The balance while the hour runs: after each group, for each source, what deliveries were given and what is still open make up its generation and its cost.
use Rattle.std.specs.Prelude.{Bool, true, false, ◌||◌, ◌≡◌, ℕ, ◌+◌, ◌≤◌, ◌<◌, pos, ◌+ℤ◌, length, get_or}
use mathlib.Core.List.{List, [], ◌∷◌, ◌++◌}
use Rattle.std.proofs.Math.Path.{refl, sym}
use Rattle.std.proofs.Common.{ap, ◌∙◌, arith}
use Rattle.std.proofs.Math.IntN.{+ℤ_idl, +ℤ_idr}
use Rattle.std.proofs.Math.ListN.{get_or-map}
use Rattle.balance.specs.Accounts.{Account, direct, incremental, whole}
use Rattle.balance.specs.SharesMakeUpTheAmount.{share_none}
use Rattle.balance.specs.TakenAndLeft.{left, opened_left}
use Rattle.laws.specs.Choices.{accepted_same, Both, then_passed, true_not_false}
use Rattle.laws.specs.Keys.{key_same, among, Turns, turns_rest, turns_first}
use Rattle.laws.specs.Signed.{sumℤ, sumℤ_zero}
use Rattle.laws.specs.Sums.{sum_to_most, sum_to_add}
use Rattle.merit.specs.ChangedFromB.{Starts}
use Rattle.merit.specs.LevelNeverBelowB.{Sound, opened_sound, state_at, percent_of, percents, Directed, group_lines_directed}
use Rattle.rules.specs.Group.{no_direct, opened, group_lines, remainder, Amount, Item, amount}
use Rattle.rules.specs.Hour.{key_at, member, scheduled, counted, share, Cells, Progress, shared, took_all, rest, group, groups, opening}
use Rattle.rules.specs.Reading.{percents_of}
use Rattle.rules.specs.Record.{no_source, source_at}
use Rattle.rules.specs.Refusals.{Outcome, accepted}
use Rattle.rules.specs.Words.{when◌then◌else◌}
use Rattle.rules.specs.declared.Direct.{Direct}
use Rattle.rules.specs.declared.Hour.{Hour}
use Rattle.rules.specs.declared.Key.{Key}
use Rattle.rules.specs.declared.Plant.{Plant}
use Rattle.rules.specs.declared.Running.{Running}
use Rattle.rules.specs.declared.Source.{Source}

abbrev pub plant_at : Hour → ℕ → Plant
plant_at h i = (source_at h i).plant

-- what the balance needs of an hour, and every hour that a deck gives has
pub record Given (h : Hour) : Type 0 where
  pub starts : (i : ℕ) → Starts (plant_at h i)
  pub percents : (i : ℕ) → percents_of h i ≤ 100
  pub long : h.ndeliveries ≤ length h.deliveries

module _ (h : Hour) (ks : List Key) where
  -- One group.

  abbrev pub after_lines : Key → Progress → List Running
  after_lines x p = group_lines (member ks x) h.directs p.states h.ndirects

  -- a group with members, from p to q
  pub record Grouped (x : Key) (p q : Progress) : Type 0 where
    pub members : 0 < counted ks x h.ndeliveries
    pub us : List Running
    pub done : remainder x.number h.nsources (scheduled h ks x h.ndeliveries) (took_all h.nsources p.states (after_lines x p)) (after_lines x p) ≡ accepted us
    pub is : q ≡ record { states = us; cells = shared h ks x p.states (after_lines x p) us p.cells }

  group_passed : (x : Key) (p q : Progress) → 0 < counted ks x h.ndeliveries → group h ks x p ≡ accepted q → Grouped x p q
  unfolding group rest
  group_passed x p q m e =
      let b : Both done after q = then_passed done after q e in
      record { members = m; us = b.mid; done = b.first; is = sym (accepted_same _ q b.second) }
    where
      after : List Running → Outcome Progress
      after us = accepted (record { states = us; cells = shared h ks x p.states (after_lines x p) us p.cells })

      done : Outcome (List Running)
      done = remainder x.number h.nsources (scheduled h ks x h.ndeliveries) (took_all h.nsources p.states (after_lines x p)) (after_lines x p)

  pub opening_at : (i : ℕ) → state_at (opening h).states i ≡ opened (plant_at h i)
  opening_at i = get_or-map (λ (s : Source). opened s.plant) h.sources i no_source

  -- what each group keeps, of the keys that are still to come, all groups do
  pub groups_keep : (P : List Key → Progress → Type 0) → ((x : Key) (xs : List Key) (p q : Progress) → Turns ks h.ndeliveries (x ∷ xs) → P (x ∷ xs) p → Grouped x p q → P xs q) →
      (ys xs : List Key) (p q : Progress) → Turns ks h.ndeliveries (ys ++ xs) → P (ys ++ xs) p → groups h ks ys p ≡ accepted q → P xs q
  unfolding groups
  groups_keep P turn [] xs p q t k e = rw (← accepted_same p q e) k
  groups_keep P turn (y ∷ ys) xs p q t k e =
      let b : Both (group h ks y p) (groups h ks ys) q = then_passed (group h ks y p) (groups h ks ys) q e in
      groups_keep P turn ys xs b.mid q (turns_rest ks h.ndeliveries y (ys ++ xs) t)
      (turn y (ys ++ xs) p b.mid t k (group_passed y p b.mid (turns_first ks h.ndeliveries y (ys ++ xs) t) b.first)) b.second

  -- its shares are added to the cells, where its members had nothing
  pub shared_adds : (x : Key) (ss ts us : List Running) (cell : Cells) (j i : ℕ) (item : Item) → (member ks x j ≡ true → cell j i item ≡ pos 0) →
      shared h ks x ss ts us cell j i item ≡ cell j i item +ℤ share h ks x (amount item (state_at ss i) (state_at ts i) (state_at us i)) j
  unfolding shared
  shared_adds x ss ts us cell j i item f = go (member ks x j) refl
    where
      a : Amount
      a = amount item (state_at ss i) (state_at ts i) (state_at us i)

      go : (y : Bool) → member ks x j ≡ y → (when y then share h ks x a j else cell j i item) ≡ cell j i item +ℤ share h ks x a j
      go true e = sym (rw (f e) (+ℤ_idl _))
      go false e = sym (rw (share_none h ks x a j e) (+ℤ_idr (cell j i item)))

  -- its members have their shares
  pub shared_members : (x : Key) (ss ts us : List Running) (cell : Cells) (j i : ℕ) (item : Item) → member ks x j ≡ true →
      shared h ks x ss ts us cell j i item ≡ share h ks x (amount item (state_at ss i) (state_at ts i) (state_at us i)) j
  unfolding shared
  shared_members x ss ts us cell j i item e = rw e

  -- and the others' cells are kept
  pub shared_keeps : (x : Key) (ss ts us : List Running) (cell : Cells) (j i : ℕ) (item : Item) → member ks x j ≡ false → shared h ks x ss ts us cell j i item ≡ cell j i item
  unfolding shared
  shared_keeps x ss ts us cell j i item e = rw e

  -- All groups.

  -- a delivery whose group is still to come
  abbrev pub awaits : List Key → ℕ → Bool
  awaits xs j = among xs (key_at ks j)

  -- it is no member of a group that comes before
  pub awaits_other : (x : Key) (xs : List Key) (j : ℕ) → among xs x ≡ false → awaits xs j ≡ true → member ks x j ≡ false
  awaits_other x xs j once e = go (member ks x j) refl
    where
      go : (b : Bool) → member ks x j ≡ b → b ≡ false
      go false f = refl
      go true f = true_not_false (sym e ∙ ap (among xs) (key_same (key_at ks j) x f) ∙ once)

  -- where a run stands when the groups of xs are still to come
  pub record Balanced (xs : List Key) (p : Progress) : Type 0 where
    pub sound : (i : ℕ) → Sound (state_at p.states i)
    pub plant : (i : ℕ) → (state_at p.states i).plant ≡ plant_at h i
    pub percent : (i : ℕ) → (state_at p.states i).percent + percents (awaits xs) h.directs i h.ndirects ≤ 100
    pub untouched : (j i : ℕ) (item : Item) → awaits xs j ≡ true → p.cells j i item ≡ pos 0
    pub closes : (a : Account) (i : ℕ) → sumℤ (λ j. p.cells j i (direct a) +ℤ p.cells j i (incremental a)) h.ndeliveries +ℤ pos (left a (state_at p.states i)) ≡ pos (whole a (plant_at h i))

  -- the lines of key x and those of the keys after it are those still to come
  pub lines_left : (x : Key) (xs : List Key) (i n : ℕ) → among xs x ≡ false → percents (member ks x) h.directs i n + percents (awaits xs) h.directs i n ≡ percents (awaits (x ∷ xs)) h.directs i n
  lines_left x xs i n once = sum_to_add n _ _ _ (λ q l. one (get_or h.directs q no_direct))
    where
      put : (a b : Bool) (line : Direct) → (a ≡ true → b ≡ false) → percent_of a line i + percent_of b line i ≡ percent_of (a || b) line i
      put true b line f = rw (f refl) (omega arith)
      put false b line f = omega arith

      one : (line : Direct) → percent_of (member ks x line.delivery) line i + percent_of (awaits xs line.delivery) line i ≡ percent_of (awaits (x ∷ xs) line.delivery) line i
      one line = put (member ks x line.delivery) (awaits xs line.delivery) line (λ e. ap (among xs) (key_same (key_at ks line.delivery) x e) ∙ once)

  -- a group's D lines
  pub lines_directed : (x : Key) (xs : List Key) (p : Progress) → among xs x ≡ false → Balanced (x ∷ xs) p → (i : ℕ) → Directed (percents (member ks x) h.directs i h.ndirects) (state_at p.states i) (state_at (after_lines x p) i)
  lines_directed x xs p once b i = group_lines_directed (member ks x) h.directs p.states i (b.sound i) h.ndirects (omega (arith, lines_left x xs i h.ndirects once, b.percent i))

  pub start_balanced : Given h → (xs : List Key) → Balanced xs (opening h)
  start_balanced g xs =
      record {
        sound = λ i. rw (opening_at i) (opened_sound (plant_at h i) (g.starts i));
        plant = λ i. ap (λ (y : Running). y.plant) (opening_at i);
        percent = λ i. let e = ap (λ (y : Running). y.percent) (opening_at i) in omega (arith, e, g.percents i, fewer i);
        untouched = λ j i item y. refl;
        closes = λ a i. rw (opening_at i, sumℤ_zero h.ndeliveries, opened_left a (plant_at h i) (g.starts i)) (+ℤ_idl (pos (whole a (plant_at h i))));
      }
    where
      put : (a : Bool) (line : Direct) (i : ℕ) → percent_of a line i ≤ percent_of true line i
      put true line i = omega arith
      put false line i = omega arith

      fewer : (i : ℕ) → percents (awaits xs) h.directs i h.ndirects ≤ percents_of h i
      fewer i =
          sum_to_most h.ndirects (λ q. percent_of (awaits xs (get_or h.directs q no_direct).delivery) (get_or h.directs q no_direct) i)
          (λ q. percent_of true (get_or h.directs q no_direct) i)
          (λ q l. put (awaits xs (get_or h.directs q no_direct).delivery) (get_or h.directs q no_direct) i)
