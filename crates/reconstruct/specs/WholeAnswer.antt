-- What the cells of a valid hour come to: 14, then what the groups come to; and so what is answered and left in the lent cells. Before them, 15.
use Rattle.std.specs.Prelude.{Result, Ok, Err, true, false, List, [], ◌++◌, ◌≡◌, refl, ℕ, ◌+◌, ◌*◌, ◌≤◌, ◌<◌, ℤ, pos, length, take, drop}
use Rattle.std.proofs.Common.{sym, ap, ◌∙◌, arith, lt-ltb, le-ltb, length-drop, take-append-drop, get_or-drop, ext_get_or}
use Rattle.balance.specs.CellsAreFew.{cells_few}
use Rattle.balance.specs.AnswerCells.{cell_at, cells_length}
use Rattle.laws.specs.Keys.{key_same, key_itself}
use Rattle.members.specs.Leads.{AllGiven, AllShared, all_given, all_shared}
use Rattle.members.specs.Live.{item_read}
use Rattle.members.specs.Members.{MwhsOf}
use Rattle.members.specs.MwhsListed.{Mwhs}
use Rattle.members.specs.Shared.{DeliveriesSmall}
use Rattle.merit.specs.LevelNeverBelowB.{state_at}
use Rattle.moves.specs.ToldIsTaken.{taken, item_at, told_taken}
use Rattle.reconstruct.specs.CellsCleared.{Cleared}
use Rattle.reconstruct.specs.CellsWritten.{Held, OpenFits, OpenPut, open_fits_taken, open_put_taken, cells_written}
use Rattle.roundtrip.specs.GivenHour.{valid_given}
use Rattle.rules.specs.Answers.{written_of}
use Rattle.rules.specs.Calls.{cells_for, reconstruction, leaves}
use Rattle.rules.specs.Hour.{key_at, keys, share, Progress, turns, groups, reconstructed, opening, cells_of, pair_width, cell_count, answer}
use Rattle.rules.specs.Group.{Amount}
use Rattle.rules.specs.Refusals.{Outcome, accepted, refused, and_then}
use Rattle.rules.specs.Writing.{valid}
use Rattle.rules.specs.declared.Hour.{Hour}
use Rattle.rules.specs.declared.Key.{Key}
use Rattle.rules.specs.declared.Refusal.{Refusal}
use Rattle.rules.specs.declared.Refusal.TheVariants.{Short, NoDeck}
use Rattle.rules.specs.declared.Running.{Running}
use Rattle.sequence.specs.Placings.{Placeable, placings, placings_same}
use Rattle.sequence.specs.SameGroups.{same_groups}
use Rattle.ladder.specs.Ready.{AllReady}
use Rattle.groups.specs.GroupTurns.{KeysOf, Turned}
use Rattle.groups.specs.GroupsOneByOne.{whole, Reached}
use Rattle.groups.specs.MwhsListed.{hour_mwhs, deliveries_small}

-- what is answered, and what is left of the lent cells
abbrev pub Answers : Hour → List ℤ → (Result ℕ Refusal) → List ℤ → Type 0
Answers h out r left = (r ≡ written_of (cells_for h (length out))) × (left ≡ leaves (cells_for h (length out)) out)

-- the same, with 15 before it
abbrev pub AnswersAny : Hour → List ℤ → (Result ℕ Refusal) → List ℤ → Type 0
AnswersAny h out r left = (r ≡ written_of (reconstruction h (length out))) × (left ≡ leaves (reconstruction h (length out)) out)

module _ (h : Hour) (out : List ℤ) where
  pub no_deck : valid h ≡ false → AnswersAny h out (Err NoDeck) out
  unfolding reconstruction
  no_deck e = (rw e, rw e)

  pub past_15 : (r : (Result ℕ Refusal)) (left : List ℤ) → valid h ≡ true → Answers h out r left → AnswersAny h out r left
  unfolding reconstruction
  past_15 r left v a = (rw v a.0, rw v a.1)

  answers_refused : (y : Refusal) → cells_for h (length out) ≡ refused y → Answers h out (Err y) out
  answers_refused y e = (rw e, rw e)

  pub too_short : length out < cell_count h → Answers h out (Err Short) out
  unfolding cells_for
  too_short l = answers_refused Short (rw (lt-ltb (length out) (cell_count h) l))

module _ (h : Hour) (v : valid h ≡ true) where
  pub placeable : Placeable h.deliveries h.ndeliveries
  placeable =
      let d = (valid_given h v).deliveries in
      record { n_small = d.few; sequence = λ j l. (d.entry j l).sequence.most; block = λ j l. omega (arith, (d.entry j l).block.most) }

-- the keys that were made are the hour's
pub keys_of : (h : Hour) (ks : List Key) → ks ≡ placings h.deliveries h.ndeliveries → KeysOf h ks
keys_of h ks e = record { same = λ j. ap (λ (xs : List Key). key_at xs j) e ∙ placings_same h j }

-- a whole run by the hour's keys: what the groups came to, and the table that they left
pub record Ran (h : Hour) (ks : List Key) (r : Result (Unit {0}) Refusal) (ss : List Running) (ms led kept : List ℕ) : Type 0 where
  pub valid : valid h ≡ true
  pub placed : ks ≡ placings h.deliveries h.ndeliveries
  pub turned : Turned h ks r ss led kept
  pub listed : Mwhs h.deliveries h.ndeliveries ms

module _ (h : Hour) (ks : List Key) (r : Result (Unit {0}) Refusal) (ss : List Running) (ms led kept : List ℕ) (w : Ran h ks r ss ms led kept) where
  same : (j : ℕ) → key_at ks j ≡ key_at (keys h) j
  same = (keys_of h ks w.placed).same

  run_is : (size : ℕ) → cell_count h ≤ size → (o : Outcome Progress) → whole h ks ≡ o → cells_for h size ≡ and_then o (λ p. accepted (cells_of h p))
  unfolding cells_for answer reconstructed
  run_is size l o f =
      rw (le-ltb size (cell_count h) l)
      (ap (λ (q : Outcome Progress). and_then q (λ p. accepted (cells_of h p))) (sym (same_groups h ks (keys h) same (turns (keys h)) (opening h)) ∙ f))

  pub hour_refused : (out : List ℤ) (y : Refusal) → cell_count h ≤ length out → r ≡ Err y → Answers h out (Err y) out
  hour_refused out y l q = answers_refused h out y (run_is (length out) l (refused y) (w.turned.ended y q))

  -- all groups are done: the pairs' cells are cleared, each member's are written, and the open cells after them
  module _ (q : r ≡ (Ok tt)) where
    abbrev pairs : ℕ
    pairs = h.ndeliveries * (h.nsources * pair_width)

    reached : Reached h ks [] ss led kept
    reached = w.turned.done q

    -- no group is left
    run_done : (p : Progress) → whole h ks ≡ groups h ks [] p → whole h ks ≡ accepted p
    unfolding groups
    run_done p e = e

    small : DeliveriesSmall h
    small = deliveries_small h w.valid

    mwhs : MwhsOf h ms
    mwhs = hour_mwhs h ms w.listed

    ready : AllReady ss h.nsources
    ready = rw reached.states reached.stands.ready

    module _ (out xs : List ℤ) (l : cell_count h ≤ length out) (c : Cleared pairs out xs) where
      pub shares_fit : AllGiven h.nsources h.ndeliveries ms ks led ss kept xs
      shares_fit =
          all_given h ms mwhs small ks led ss kept xs (valid_given h w.valid).sources.few (omega (arith, c.long)) c.zero reached.table.leads (λ i. (ready.ready i).small) reached.table.low

      module _ (ys : List ℤ) (s : AllShared h.nsources h.ndeliveries ms ks led ss kept xs ys) where
        pub open_fits : h.nsources ≤ length ss → OpenFits (take h.nsources ss) pairs ys
        open_fits m = open_fits_taken ss h.nsources m pairs ys ready (cells_few h w.valid) (omega (arith, c.long, s.long))

        -- each delivery's group is done, and its lead's row tells what its cells are shares of
        held : Held h ys reached.progress.cells
        held = record {
          at = λ j i k a b d.
              let o = reached.table.owed j a refl in
              let e : key_at ks o.lead ≡ key_at ks j = key_same (key_at ks o.lead) (key_at ks j) o.leads.key in
              all_shared h ms mwhs small ks led ss kept xs ys s o.lead j i k o.leads.within o.marked a (rw e (key_itself (key_at ks j))) b d ∙
              ap (λ (t : Amount). share h ks (key_at ks o.lead) t j) (told_taken (o.runs i) (state_at ss i) (o.later i) _ (o.entries i b) (item_at k)) ∙
              ap (λ (x : Key). share h ks x (taken o.ss o.ts o.us i (item_at k)) j) e ∙
              sym (item_read (reached.progress.cells j i) (pos 0) k d ∙ o.cell i (item_at k) b);
        }

        module _ (m : h.nsources ≤ length ss) (left : List ℤ) (taken : OpenPut (take h.nsources ss) pairs (length (take h.nsources ss)) ys left) where
          put : OpenPut ss pairs h.nsources ys left
          put = open_put_taken ss h.nsources m pairs ys left taken

          as_long : length left ≡ length out
          as_long = put.long ∙ s.long ∙ c.long

          beyond : (m : ℕ) → cell_count h ≤ m → cell_at left m ≡ cell_at out m
          beyond m b = put.beyond m b ∙ s.beyond m (omega arith) ∙ c.beyond m (omega arith)

          rest_stays : drop (cell_count h) left ≡ drop (cell_count h) out
          rest_stays =
              ext_get_or (pos 0) (drop (cell_count h) left) (drop (cell_count h) out) (omega (arith, length-drop (cell_count h) left, length-drop (cell_count h) out, as_long))
              (λ k b. get_or-drop (cell_count h) left k (pos 0) ∙ beyond (cell_count h + k) (omega arith) ∙ sym (get_or-drop (cell_count h) out k (pos 0)))

          pub hour_done : Answers h out (Ok (cell_count h)) left
          hour_done =
              let p = reached.progress in
              let cells : take (cell_count h) left ≡ cells_of h p = cells_written h p ys left held (rw reached.states at put) (omega (arith, as_long)) in
              rw (run_is (length out) l (accepted p) (run_done p reached.run), cells_length h p)
              (refl, sym (take-append-drop (cell_count h) left) ∙ ap (λ (x : List ℤ). x ++ drop (cell_count h) left) cells ∙ ap (λ (x : List ℤ). cells_of h p ++ x) rest_stays)
