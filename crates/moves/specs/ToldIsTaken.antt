-- What an entry tells, by the source's state at the hour's end, is what its group took.
use Rattle.std.specs.Prelude.{Bool, true, false, List, ◌≡◌, refl, ℕ, ◌+◌, ◌-◌, ◌≤◌, get_or}
use Rattle.std.proofs.Common.{inl, inr, sym, ap, ◌∙◌, arith, le-ltb}
use Rattle.merit.specs.ChangedFromB.{changed_over, changed_zero}
use Rattle.merit.specs.LevelNeverBelowB.{Sound, Took, Moved, state_at, moved_sound}
use Rattle.merit.specs.NumbersStaySmall.{Small, cost_small, changed_small}
use Rattle.moves.specs.LaterStates.{Later, later_then, took_later, moved_later, later_changed}
use Rattle.moves.specs.MovesKept.{standing, d_of, level_of, before, after, Low, Entry, d_of_lem, level_of_lem, before_move, after_move}
use Rattle.rules.specs.Group.{level, changed, charged, Item, direct_mwh, incremental_mwh, direct_cost, incremental_cost, Amount, less, amount}
use Rattle.rules.specs.Hour.{items}
use Rattle.moves.specs.declared.Taken.{Taken}
use Rattle.rules.specs.Units.{cost}
use Rattle.rules.specs.declared.Plant.{Plant}
use Rattle.rules.specs.declared.Running.{Running}

-- a source that stood at s, at t after the D lines, and at u after the remainder
pub record SourceRun (s t u : Running) : Type 0 where
  pub sound : Sound s
  pub took : Took s t
  pub moved : Moved t u

-- all sources, blank entries too
abbrev pub SourceRuns : List Running → List Running → List Running → Type 0
SourceRuns ss ts us = (i : ℕ) → SourceRun (state_at ss i) (state_at ts i) (state_at us i)

-- what the group takes of source i
abbrev pub taken : List Running → List Running → List Running → ℕ → Item → Amount
taken ss ts us i item = amount item (state_at ss i) (state_at ts i) (state_at us i)

-- the amounts between two standings, of D and level each, of a source at e in the end
abbrev between : Running → ℕ → ℕ → ℕ → ℕ → Item → Amount
between e d l d' l' direct_mwh = record { minus = false; size = d' - d }
between e d l d' l' incremental_mwh = less l l'
between e d l d' l' direct_cost = record { minus = false; size = changed e d' - changed e d }
between e d l d' l' incremental_cost = less (cost e.plant l) (cost e.plant l')

-- the amounts that an entry tells
abbrev pub told : Running → ℕ → Item → Amount
told e x item = between e (d_of (before x)) (level_of (before x)) (d_of (after x)) (level_of (after x)) item

-- an amount, as code has it
abbrev pub amount_of : Taken → Amount
amount_of a = record { minus = a.minus; size = a.size }

-- the item at a place of a pair's cells
abbrev pub item_at : ℕ → Item
item_at k = get_or items k direct_mwh

abbrev nothing : Amount
nothing = record { minus = false; size = 0 }

less_same : (x : ℕ) → less x x ≡ nothing
less_same x = let e : (x - x) + (x - x) ≡ 0 = omega arith in rw (le-ltb x x (omega arith), e)

size_same : (x : ℕ) → ◌≡◌ {A = Amount} (record { minus = false; size = x - x }) nothing
size_same x = let e : x - x ≡ 0 = omega arith in rw e

-- where it stands as before, nothing
between_same : (e : Running) (d l : ℕ) (item : Item) → between e d l d l item ≡ nothing
between_same e d l direct_mwh = size_same d
between_same e d l incremental_mwh = less_same l
between_same e d l direct_cost = size_same (changed e d)
between_same e d l incremental_cost = less_same (cost e.plant l)

-- an entry whose standings are the same tells nothing
pub told_none : (e : Running) (x : ℕ) → before x ≡ after x → (item : Item) → (told e x item).size ≡ 0
told_none e x h item = rw (h, between_same e (d_of (after x)) (level_of (after x)) item)

pub told_small : (e : Running) (x : ℕ) → Small e → Low x → (item : Item) → (told e x item).size ≤ 100_000_000_000_000
told_small e x g l direct_mwh = omega (arith, l.last.0)
told_small e x g l incremental_mwh = omega (arith, l.first.1, l.last.1)
told_small e x g l direct_cost = omega (arith, changed_small e g (d_of (after x)) l.last.0)
told_small e x g l incremental_cost =
    omega (arith, cost_small e.plant g.plant (level_of (before x)) l.first.1, cost_small e.plant g.plant (level_of (after x)) l.last.1)

module _ {s t u : Running} (r : SourceRun s t u) where
  same_d : u.d ≡ t.d
  same_d = ap (λ (z : Running). z.d) r.moved.is

  none_before : s.based ≡ false → s.d ≡ 0
  none_before z = omega (arith, r.sound.part, (r.sound.unset z).0)

  -- what D had cost before is W as changed there, by the state after its lines
  charged_before : t.based ≡ true → changed t s.d ≡ charged s
  charged_before z = go s.based refl
    where
      go : (x : Bool) → s.based ≡ x → changed t s.d ≡ charged s
      go true e = later_changed s t (took_later s t r.took) e s.d
      go false e = let d = none_before e in ap (changed t) d ∙ changed_zero t r.took.sound.starts ∙ sym (ap (changed s) d ∙ changed_zero s r.sound.starts)

  module _ (e : Running) (l : Later u e) where
    later : Later t e
    later = later_then t u e (moved_later t u r.moved) l

    -- what D costs more is the same by the state in the end
    direct_cost_lem : changed e t.d - changed e s.d ≡ charged t - charged s
    direct_cost_lem = go t.based refl
      where
        go : (x : Bool) → t.based ≡ x → changed e t.d - changed e s.d ≡ charged t - charged s
        go true z = omega (arith, later_changed t e later z t.d, later_changed t e later z s.d, charged_before z)
        go false z =
            let a : t.d ≡ 0 = omega (arith, r.took.sound.part, (r.took.sound.unset z).0) in
            let b : s.d ≡ 0 = omega (arith, r.took.more) in
            let p : charged t ≡ 0 = ap (changed t) a ∙ changed_zero t r.took.sound.starts in
            let q : changed e t.d ≡ changed e s.d = ap (changed e) (a ∙ sym b) in
            omega arith

    -- W at a level is W as changed there
    cost_before : cost e.plant (level s) ≡ changed t (level t)
    cost_before = ap (λ (p : Plant). cost p (level s)) later.plant ∙ ap (cost t.plant) (sym r.took.level) ∙ sym (changed_over t r.took.sound.starts (level t) r.took.sound.above)

    cost_after : cost e.plant (level u) ≡ changed u (level u)
    cost_after =
        let g = moved_sound t u r.took.sound r.moved in
        ap (λ (p : Plant). cost p (level u)) l.plant ∙ sym (changed_over u g.starts (level u) g.above)

    between_taken : (item : Item) → between e s.d (level s) u.d (level u) item ≡ amount item s t u
    between_taken direct_mwh = rw same_d
    between_taken incremental_mwh = rw r.took.level
    between_taken direct_cost = rw (same_d, direct_cost_lem)
    between_taken incremental_cost = rw (cost_before, cost_after)

    -- the entry tells what the group took
    pub told_taken : (x : ℕ) → Entry s u x → (item : Item) → told e x item ≡ amount item s t u
    told_taken x g item = elim g.is [
      | inl z ↦ (
          let a : u.d ≡ s.d = sym (d_of_lem u g.stands) ∙ ap d_of (sym z.1) ∙ d_of_lem s g.began in
          let b : level u ≡ level s = sym (level_of_lem u g.stands) ∙ ap level_of (sym z.1) ∙ level_of_lem s g.began in
          let none : told e x item ≡ nothing = ap (λ (m : ℕ). told e m item) z.0 ∙ between_same e 0 0 item in
          none ∙ sym (between_same e s.d (level s) item) ∙ same e s.d (level s) u.d (level u) item a b ∙ between_taken item)
      | inr z ↦ (
          let p : before x ≡ standing s = ap before z ∙ before_move s u g.began in
          let q : after x ≡ standing u = ap after z ∙ after_move s u g.began in
          rw (p, q, d_of_lem s g.began, level_of_lem s g.began, d_of_lem u g.stands, level_of_lem u g.stands) (between_taken item))
    ]
      where
        same : (e : Running) (d l d' l' : ℕ) (item : Item) → d' ≡ d → l' ≡ l → between e d l d l item ≡ between e d l d' l' item
        same e d l d' l' item a b = rw (a, b)
