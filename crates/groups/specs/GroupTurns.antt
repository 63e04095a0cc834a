-- One group's turn: what its code may rely on, and where the run stands after it.
use Rattle.std.specs.Prelude.{Result, Ok, Err, Option, Some, None, true, List, [], ◌∷◌, map, ◌≡◌, ℕ, suc, ◌+◌, ◌≤◌, ◌<◌, length, set, replicate}
use Rattle.std.proofs.Common.{sym, ap, ◌∙◌, arith, ltb-true, lt-ltb}
use Rattle.group.specs.FirstWay.{FirstLines}
use Rattle.group.specs.Settling.{states_of}
use Rattle.laws.specs.Answers.{verdict_refused}
use Rattle.balance.specs.EveryGroupIsDone.{every_group_is_done, every_number_is_low}
use Rattle.balance.specs.KeysOfAnHour.{hour_turns, every_group_has_its_turn}
use Rattle.balance.specs.ValidHour.{valid_balances}
use Rattle.laws.specs.Keys.{key_of, among, first_once, among_turns, among_found, turns_first}
use Rattle.members.specs.Leads.{Lead}
use Rattle.members.specs.Shared.{DeliveriesSmall}
use Rattle.groups.specs.MovesOfGroups.{row_blank, row_within, kept_turn}
use Rattle.groups.specs.GroupsOneByOne.{whole, left_after, directed_to, Reached, reached_start, reached_turn, reached_refused}
use Rattle.groups.specs.LinesTaken.{LinesFit}
use Rattle.groups.specs.MwhsListed.{deliveries_small}
use Rattle.groups.specs.StatesStayReady.{lines_took, lines_ready, lines_fit}
use Rattle.groups.specs.RowKept.{RowKept, ready_stands, row_none}
use Rattle.moves.specs.ToldIsTaken.{SourceRuns}
use Rattle.merit.specs.RemainderMoves.{shift_moved, remainder_moves}
use Rattle.roundtrip.specs.GivenHour.{valid_given}
use Rattle.rules.specs.Answers.{verdict_of}
use Rattle.rules.specs.Group.{opened, remainder}
use Rattle.rules.specs.Hour.{keys, key_at, member, scheduled, counted, took_all, turns}
use Rattle.rules.specs.Refusals.{Outcome, accepted, refused}
use Rattle.rules.specs.Writing.{valid}
use Rattle.rules.specs.declared.Hour.{Hour}
use Rattle.rules.specs.declared.Key.{Key}
use Rattle.rules.specs.declared.Refusal.{Refusal}
use Rattle.rules.specs.declared.Running.{Running}
use Rattle.sequence.specs.NextKey.{Next, Coming, coming_none, First, coming_next, coming_all}
use Rattle.sequence.specs.SameGroups.{counted_same, same_turns}
use Rattle.ladder.specs.Ready.{AllReady}

-- A bound on what is left: how many numbers are not above the next group's.
abbrev pub past : Option Key → ℕ
past None = 0
past (Some x) = suc x.number.0

pub past_there : (next : Option Key) (x : Key) → next ≡ Some x → past next ≡ suc x.number.0
past_there next x e = ap past e

pub past_most : (ks : List Key) (n : ℕ) (x : Key) (next : Option Key) → Next ks n x next → past next ≤ x.number.0
past_most ks n x None f = omega arith
past_most ks n x (Some y) f = omega (arith, ltb-true y.number.0 x.number.0 f.after)

-- the deliveries' keys in a table
pub record KeysOf (h : Hour) (ks : List Key) : Type 0 where
  pub same : (j : ℕ) → key_at ks j ≡ key_at (keys h) j

-- a table in which nothing stands, with no lead marked
pub record Blank (ls xs : List ℕ) : Type 0 where
  pub led : ls ≡ replicate 32 0
  pub kept : xs ≡ replicate 1024 0

-- a remainder that is answered Ok left these states
pub accepted_outcome : (ts us : List Running) (o : Outcome (List Running)) → Ok tt ≡ verdict_of o → us ≡ states_of ts o → o ≡ accepted us
accepted_outcome ts us (accepted ws) v s = ap accepted (sym s)
accepted_outcome ts us (refused y) v s = cc

module _ (h : Hour) (ks : List Key) where
  -- what a group's turn relies on: x is the next of the turns that are left
  pub record TurnFits (x : Key) (ss : List Running) (led kept : List ℕ) : Type 0 where
    pub valid : valid h ≡ true
    pub xs : List Key
    pub reached : Reached h ks (x ∷ xs) ss led kept
    pub rest : Coming ks h.ndeliveries x xs

  -- what the run answers: all groups are done, or the refusal that ends it
  pub record Turned (r : Result (Unit {0}) Refusal) (ss : List Running) (led kept : List ℕ) : Type 0 where
    pub done : r ≡ Ok tt → Reached h ks [] ss led kept
    pub ended : (y : Refusal) → r ≡ Err y → whole h ks ≡ refused y

  -- its D lines left ts and took so much, and it has so many MWh
  pub record Worked (x : Key) (ss ts : List Running) (total took : ℕ) : Type 0 where
    pub lines : ts ≡ directed_to h ks x ss
    pub mwh : total ≡ scheduled h ks x h.ndeliveries
    pub taken : took ≡ took_all h.nsources ss ts

  -- its remainder left us, its row has its moves, and the lines are those of us
  pub record Rested (x : Key) (ss ts : List Running) (total took : ℕ) (us : List Running) (step down room above head : List ℕ) (lead : ℕ) (kept kept' : List ℕ) : Type 0 where
    pub left : remainder x.number h.nsources total took ts ≡ accepted us
    pub row : RowKept lead h.nsources ss kept us kept'
    pub lines : FirstLines us step down room above head h.nsources
    pub long : length us ≡ 32

  module _ (x : Key) (ss : List Running) (led kept : List ℕ) (f : TurnFits x ss led kept) where
    pub turn_lines : LinesFit (member ks x) h.directs ss h.nsources h.ndirects
    turn_lines = rw f.reached.states (lines_fit h ks x f.xs f.reached.progress f.reached.turns f.reached.stands f.valid)

    pub turn_ready : (ts : List Running) → ts ≡ directed_to h ks x ss → AllReady ts h.nsources
    turn_ready ts e = rw (e, f.reached.states) (lines_ready h ks x f.xs f.reached.progress f.reached.turns f.reached.stands)

    pub turn_deliveries : DeliveriesSmall h
    turn_deliveries = deliveries_small h f.valid

    pub turn_members : 0 < counted ks x h.ndeliveries
    turn_members = turns_first ks h.ndeliveries x f.xs f.reached.turns

    sources_few : h.nsources ≤ 32
    sources_few = (valid_given h f.valid).sources.few

    -- every state is ready before its D lines
    pub turn_start : AllReady ss h.nsources
    turn_start = rw f.reached.states f.reached.stands.ready

    -- its row is blank yet
    module _ (lead : ℕ) (l : Lead ks h.ndeliveries x lead) where
      pub turn_blank : RowKept lead h.nsources ss kept ss kept
      turn_blank =
          row_none lead h.nsources ss kept f.reached.table.long f.reached.table.low (λ i. ready_stands _ (turn_start.ready i))
          (row_blank h ks x f.xs lead f.reached.progress.cells led kept ss f.reached.table sources_few turn_deliveries.few l)

      pub turn_within : lead < 32
      turn_within = row_within h ks x f.xs lead f.reached.progress.cells led kept ss f.reached.table sources_few turn_deliveries.few l

    module _ (ts : List Running) (total took : ℕ) (w : Worked x ss ts total took) where
      abbrev remains : Outcome (List Running)
      remains = remainder x.number h.nsources total took ts

      left : left_after h ks x ss (directed_to h ks x ss) ≡ remains
      left = rw (w.mwh, w.taken, w.lines)

      -- the states after its remainder
      module _ (us : List Running) (e : remains ≡ accepted us) where
        pub turn_runs : SourceRuns ss ts us
        turn_runs i =
            let t = (turn_ready ts w.lines).ready i in
            record {
              sound = (turn_start.ready i).sound;
              took = rw (w.lines, f.reached.states) (lines_took h ks x f.xs f.reached.progress f.reached.turns f.reached.stands i);
              moved = shift_moved t.sound ((remainder_moves x.number h.nsources total took ts us e).each i);
            }

        pub turn_done : (lead : ℕ) (kept' : List ℕ) → Lead ks h.ndeliveries x lead → RowKept lead h.nsources ss kept us kept' → Reached h ks f.xs us (set led lead (total + 1)) kept'
        turn_done lead kept' l d = reached_turn h ks x f.xs ss led kept f.reached us _ kept' (left ∙ e)
            (kept_turn h ks x f.xs lead f.reached.progress.cells led kept ss f.reached.table sources_few turn_deliveries.few l (directed_to h ks x ss) us kept' d (rw w.lines at turn_runs) total w.mwh
            (first_once x f.xs f.reached.turns.ordered))

      pub turn_refused : (y : Refusal) (ss' : List Running) (led' kept' : List ℕ) → Err y ≡ verdict_of remains → Turned (Err y) ss' led' kept'
      turn_refused y ss' led' kept' v = record {
        done = λ q. cc;
        ended = λ z q. reached_refused h ks x f.xs ss led kept f.reached z (left ∙ verdict_refused remains z (sym v ∙ q));
      }

  -- Between turns: the next group is the first of the turns that are left; where there is none, none is left.
  pub record Between (next : Option Key) (ss : List Running) (led kept : List ℕ) : Type 0 where
    pub xs : List Key
    pub reached : Reached h ks xs ss led kept
    pub none : next ≡ None → xs ≡ []
    pub first : (x : Key) → next ≡ Some x → First ks h.ndeliveries x xs

  pub between_next : (x : Key) (xs : List Key) (next : Option Key) (ss : List Running) (led kept : List ℕ) → Reached h ks xs ss led kept → Coming ks h.ndeliveries x xs → Next ks h.ndeliveries x next →
      Between next ss led kept
  between_next x xs next ss led kept r c f = record {
    xs = xs;
    reached = r;
    none = λ e. coming_none ks h.ndeliveries x xs c (rw e at f);
    first = λ y e. coming_next ks h.ndeliveries x xs y c (rw e at f);
  }

  -- before the first turn
  module _ (v : valid h ≡ true) (k : KeysOf h ks) where
    has_turn : (y : Key) → 0 < counted ks y h.ndeliveries → among (turns (keys h)) y ≡ true
    has_turn y c = every_group_has_its_turn h (valid_balances h v).long y (rw (counted_same h ks (keys h) k.same y h.ndeliveries) at c)

    all_turns_left : Coming ks h.ndeliveries (key_of 1000) (turns (keys h))
    all_turns_left = coming_all ks h.ndeliveries (key_of 1000) (turns (keys h)) (same_turns h (keys h) ks (λ j. sym (k.same j)) h.ndeliveries (turns (keys h)) (hour_turns h))
        (λ y c. (has_turn y c, lt-ltb y.number.0 1000 (low y (has_turn y c))))
      where
        low : (y : Key) → among (turns (keys h)) y ≡ true → y.number.0 < 1000
        low y e =
            let f = among_found (keys h) y (sym (among_turns (keys h) y) ∙ e) in
            let l = every_number_is_low h v f.at in
            let g = ap (λ (z : Key). z.number.0) f.is in
            omega arith

    pub between_start : (next : Option Key) (ss : List Running) (led kept : List ℕ) → ss ≡ map (λ s. opened s.plant) h.sources → led ≡ replicate 32 0 → kept ≡ replicate 1024 0 →
        Next ks h.ndeliveries (key_of 1000) next → Between next ss led kept
    between_start next ss led kept e l k0 f =
        rw (l, k0)
        (between_next (key_of 1000) (turns (keys h)) next ss _ _
        (reached_start h ks ss v e all_turns_left.turns (λ j l. rw (k.same j) (every_group_is_done h v j l)))
        all_turns_left f)

  pub between_fits : (next : Option Key) (ss : List Running) (led kept : List ℕ) → valid h ≡ true → (x : Key) → next ≡ Some x → Between next ss led kept → TurnFits x ss led kept
  between_fits next ss led kept v x t b =
      let f = b.first x t in
      record { valid = v; xs = f.ys; reached = rw f.is at b.reached; rest = f.rest }

  pub all_turned : (next : Option Key) (ss : List Running) (led kept : List ℕ) → next ≡ None → Between next ss led kept → Turned (Ok tt) ss led kept
  all_turned next ss led kept t b = record { done = λ q. rw (b.none t) at b.reached; ended = λ y q. cc }
