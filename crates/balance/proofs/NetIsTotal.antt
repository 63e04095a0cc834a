-- "A group's net MWh equals its total": of each group of a run, and so of an answer's cells.
use Rattle.std.specs.Prelude.{Bool, true, false, List, [], ◌∷◌, ◌++◌, ◌≡◌, refl, ℕ, ◌<◌, ℤ, pos, ◌+ℤ◌}
use Rattle.std.proofs.Common.{append-nil, sym, ap, ◌∙◌}
use Rattle.laws.specs.Choices.{true_not_false}
use Rattle.laws.specs.Keys.{key_same, among, among_neither, first_once, Turns}
use Rattle.laws.specs.Signed.{value, sumℤ, sumℤ_add, sumℤ_same}
use Rattle.balance.specs.AnswerCells.{pair_cell, answer_cells}
use Rattle.balance.proofs.AnswerCells.{pair_cell_lem}
use Rattle.balance.specs.HourBalances.{Given, after_lines, Grouped, groups_keep, Balanced, lines_directed, start_balanced, shared_members, shared_keeps}
use Rattle.balance.proofs.HourBalances.{grouped_balanced}
use Rattle.balance.specs.KeysOfAnHour.{hour_turns, every_group_has_its_turn}
use Rattle.balance.specs.SharesMakeUpTheAmount.{shares_sum, share_none}
use Rattle.merit.specs.LevelNeverBelowB.{state_at}
use Rattle.rules.specs.Group.{Amount, Item, direct_mwh, incremental_mwh, amount}
use Rattle.rules.specs.Hour.{Cells, Progress, keys, key_at, same_key, cells_of, turns, groups, opening, member, counted, scheduled, share, shared, reconstructed, answer}
use Rattle.rules.specs.Refusals.{accepted}
use Rattle.rules.specs.Words.{when◌then◌else◌}
use Rattle.rules.specs.declared.Hour.{Hour}
use Rattle.rules.specs.declared.Key.{Key}
use Rattle.rules.specs.declared.Running.{Running}
use Rattle.balance.specs.NetIsTotal.{group_total}

-- Of the answer.

-- the MWh of group x's members from all sources
abbrev group_mwh : Hour → List Key → Key → Cells → ℤ
group_mwh h ks x cell = sumℤ (λ i. sumℤ (λ j. when member ks x j then cell j i direct_mwh +ℤ cell j i incremental_mwh else pos 0) h.ndeliveries) h.nsources

module _ (h : Hour) (ks : List Key) where
  -- the groups that are not to come any more have their totals
  abbrev Nets : List Key → Progress → Type 0
  Nets xs p = (y : Key) → among xs y ≡ false → 0 < counted ks y h.ndeliveries → group_mwh h ks y p.cells ≡ pos (scheduled h ks y h.ndeliveries)

  -- the group at hand
  own_net : (x : Key) (xs : List Key) (p q : Progress) → among xs x ≡ false → Balanced h ks (x ∷ xs) p → Grouped h ks x p q → group_mwh h ks x q.cells ≡ pos (scheduled h ks x h.ndeliveries)
  own_net x xs p q once b g =
      rw g.is
      (sumℤ_same _ (λ i. value (part i direct_mwh) +ℤ value (part i incremental_mwh)) h.nsources (λ i l. row i) ∙
      group_total x.number h.nsources (scheduled h ks x h.ndeliveries) p.states ts g.us (λ i. (lines_directed h ks x xs p once b i).took) g.done b.sound)
    where
      ts : List Running
      ts = after_lines h ks x p

      part : ℕ → Item → Amount
      part i item = amount item (state_at p.states i) (state_at ts i) (state_at g.us i)

      cell : Cells
      cell = shared h ks x p.states ts g.us p.cells

      one : (i j : ℕ) (y : Bool) → member ks x j ≡ y → (when y then cell j i direct_mwh +ℤ cell j i incremental_mwh else pos 0) ≡ share h ks x (part i direct_mwh) j +ℤ share h ks x (part i incremental_mwh) j
      one i j true e = rw (shared_members h ks x p.states ts g.us p.cells j i direct_mwh e, shared_members h ks x p.states ts g.us p.cells j i incremental_mwh e)
      one i j false e = rw (share_none h ks x (part i direct_mwh) j e, share_none h ks x (part i incremental_mwh) j e)

      row : (i : ℕ) → sumℤ (λ j. when member ks x j then cell j i direct_mwh +ℤ cell j i incremental_mwh else pos 0) h.ndeliveries ≡ value (part i direct_mwh) +ℤ value (part i incremental_mwh)
      row i =
          sumℤ_same _ (λ j. share h ks x (part i direct_mwh) j +ℤ share h ks x (part i incremental_mwh) j) h.ndeliveries (λ j l. one i j (member ks x j) refl) ∙
          sumℤ_add (share h ks x (part i direct_mwh)) (share h ks x (part i incremental_mwh)) h.ndeliveries ∙
          rw (shares_sum h ks x (part i direct_mwh) g.members, shares_sum h ks x (part i incremental_mwh) g.members)

  -- a group whose cells are kept
  kept_net : (y : Key) (cell cell' : Cells) → ((j i : ℕ) (item : Item) → member ks y j ≡ true → cell' j i item ≡ cell j i item) → group_mwh h ks y cell' ≡ group_mwh h ks y cell
  kept_net y cell cell' same =
      sumℤ_same _ _ h.nsources (λ i l. sumℤ_same (λ j. when member ks y j then cell' j i direct_mwh +ℤ cell' j i incremental_mwh else pos 0) (λ j. when member ks y j then cell j i direct_mwh +ℤ cell j i incremental_mwh else pos 0) h.ndeliveries
      (λ j k. one i j (member ks y j) refl))
    where
      one : (i j : ℕ) (z : Bool) → member ks y j ≡ z → (when z then cell' j i direct_mwh +ℤ cell' j i incremental_mwh else pos 0) ≡ (when z then cell j i direct_mwh +ℤ cell j i incremental_mwh else pos 0)
      one i j true e = rw (same j i direct_mwh e, same j i incremental_mwh e)
      one i j false e = refl

  grouped_nets : (x : Key) (xs : List Key) (p q : Progress) → among xs x ≡ false → Balanced h ks (x ∷ xs) p → Grouped h ks x p q → Nets (x ∷ xs) p → Nets xs q
  grouped_nets x xs p q once b g nets y l c = go (same_key y x) refl
    where
      apart : same_key y x ≡ false → (j : ℕ) → member ks y j ≡ true → member ks x j ≡ false
      apart e j f = ap (λ (z : Key). same_key z x) (key_same (key_at ks j) y f) ∙ e

      go : (a : Bool) → same_key y x ≡ a → group_mwh h ks y q.cells ≡ pos (scheduled h ks y h.ndeliveries)
      go true e = rw (key_same y x e) (own_net x xs p q once b g)
      go false e =
          rw g.is
          (kept_net y p.cells (shared h ks x p.states (after_lines h ks x p) g.us p.cells)
          (λ j i item z. shared_keeps h ks x p.states (after_lines h ks x p) g.us p.cells j i item (apart e j z)) ∙ nets y (among_neither x xs y e l) c)

  groups_nets : Given h → (xs : List Key) → Turns ks h.ndeliveries xs → ((y : Key) → 0 < counted ks y h.ndeliveries → among xs y ≡ true) → (q : Progress) → groups h ks xs (opening h) ≡ accepted q → Nets [] q
  groups_nets g xs t all q e =
      (groups_keep h ks (λ zs p. Balanced h ks zs p × Nets zs p)
      (λ x zs p r u b s. let once = first_once x zs u.ordered in (grouped_balanced h ks x zs p r u b.0 s, grouped_nets x zs p r once b.0 s b.1))
      xs [] (opening h) q (rw (append-nil xs) t) (start_balanced h ks g (xs ++ []), λ y l c. true_not_false (sym (all y c) ∙ ap (λ (zs : List Key). among zs y) (sym (append-nil xs)) ∙ l)) e).1

-- each group's cells add up to its total
pub answer_net : (h : Hour) → Given h → (xs : List ℤ) → answer h ≡ accepted xs → (x : Key) → 0 < counted (keys h) x h.ndeliveries →
    sumℤ (λ i. sumℤ (λ j. when member (keys h) x j then pair_cell h xs j i direct_mwh +ℤ pair_cell h xs j i incremental_mwh else pos 0) h.ndeliveries) h.nsources ≡ pos (scheduled h (keys h) x h.ndeliveries)
unfolding reconstructed
answer_net h g xs e x c =
    let a = answer_cells h xs e in
    let p = a.progress in
    rw a.is
    (sumℤ_same _ _ h.nsources (λ i m. sumℤ_same
    (λ j. when member (keys h) x j then pair_cell h (cells_of h p) j i direct_mwh +ℤ pair_cell h (cells_of h p) j i incremental_mwh else pos 0)
    (λ j. when member (keys h) x j then p.cells j i direct_mwh +ℤ p.cells j i incremental_mwh else pos 0) h.ndeliveries
    (λ j k. rw (pair_cell_lem h p j i direct_mwh k m, pair_cell_lem h p j i incremental_mwh k m))) ∙
    groups_nets h (keys h) g (turns (keys h)) (hour_turns h) (λ y z. every_group_has_its_turn h g.long y z) p a.run x refl c)
