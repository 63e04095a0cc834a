-- A remainder's first way, down to the normal lows or up, by lines that are kept from group to group and renewed where a source changes.
use Rattle.std.specs.Prelude.{Bool, true, false, List, ◌≡◌, refl, ℕ, ◌+◌, ◌≤◌, ◌<◌, leb, ltb, length, set}
use Rattle.std.proofs.Common.{sym, ap, ◌∙◌, add-one, arith, le-leb, leb-true, length-set, get_or-set_same, get_or-set_other}
use Rattle.std.proofs.Math.Decide.{ℕ_discrete}
use Rattle.std.proofs.lemmas.Bool.{lt-leb}
use Rattle.curve.specs.declared.Rung.TheVariants.{Normal}
use Rattle.dispatch.specs.Taken.{Sources, Taken}
use Rattle.dispatch.specs.TakenIsPlain.{LinesOf, lines_sources}
use Rattle.group.specs.Settling.{apart, way_at, tries, way_priced, short_none, remainder_by}
use Rattle.ladder.specs.Ways.{way_of, up_of, LineSet, long_lines, taken_within, engine_plain}
use Rattle.ladder.specs.Ways as ways
use Rattle.ladder.specs.declared.Way.TheVariants.{Down, Up}
use Rattle.laws.specs.Choices.{false_not_true}
use Rattle.laws.specs.Sums.{below_suc, sum_to_same}
use Rattle.cutoff.specs.Lines.{lanes, at}
use Rattle.merit.specs.LevelNeverBelowB.{state_at}
use Rattle.merit.specs.RemainderMoves.{room_last}
use Rattle.merit.specs.RemainderMoves as moves
use Rattle.rules.specs.Group.{no_running, normal, remainder, all}
use Rattle.rules.specs.Refusals.{accepted}
use Rattle.rules.specs.Words.{sum_to}
use Rattle.rules.specs.declared.InternalSequence.{InternalSequence}
use Rattle.rules.specs.declared.Running.{Running}
use Rattle.ladder.specs.Ready.{Ready, Within, AllReady, Shifted, shifted, shift_ready, step_of}

-- one of two, by the side of a remainder
abbrev pub pick : {A : Type 0} → Bool → A → A → A
pick false a b = a
pick true a b = b

-- the steps of the first n sources, which no group changes
pub record Steps (ss : List Running) (step : List ℕ) (n : ℕ) : Type 0 where
  pub long : length step ≡ lanes
  pub each : (i : ℕ) → i < n → at step i ≡ step_of (state_at ss i).plant

-- the steps, and the lines of both first ways
pub record FirstLines (ss : List Running) (step down room above head : List ℕ) (n : ℕ) : Type 0 where
  pub steps : Steps ss step n
  pub lower : LinesOf false (way_of (Down Normal)).room ss down step room n
  pub raise : LinesOf true (way_of Up).room ss above step head n

-- both lines of one source are made anew
pub record Renewed (s : Running) (i : ℕ) (down room above head down' room' above' head' : List ℕ) : Type 0 where
  pub lower_room : ℕ
  pub raise_room : ℕ
  pub lower : LineSet (Down Normal) s i down room down' room' lower_room
  pub raise : LineSet Up s i above head above' head' raise_room

pub record RoomsSmall (cap : List ℕ) (n : ℕ) : Type 0 where
  pub n_small : n ≤ lanes
  pub each : (i : ℕ) → i < n → at cap i ≤ 2000

pub rooms_small : {one step cap : List ℕ} {n : ℕ} → Sources one step cap n → RoomsSmall cap n
rooms_small s = record { n_small = s.n_small; each = λ i l. (s.falls i l).cap_small }

-- whether the first way has room, and what it takes then
pub record FirstTaken (up : Bool) (one step cap : List ℕ) (n rest : ℕ) (enough : Bool) (t : List ℕ) : Type 0 where
  pub room : enough ≡ leb rest (sum_to (at cap) n)
  pub taken : enough ≡ true → Taken up one step cap n rest t

pub first_none : {up : Bool} {one step cap : List ℕ} {n rest : ℕ} {t : List ℕ} → sum_to (at cap) n < rest → FirstTaken up one step cap n rest false t
first_none {cap = cap} {n = n} {rest = rest} h = record { room = sym (lt-leb rest (sum_to (at cap) n) h); taken = λ e. false_not_true e }

pub first_all : {up : Bool} {one step cap : List ℕ} {n rest : ℕ} {t : List ℕ} → rest ≤ sum_to (at cap) n → Taken up one step cap n rest t → FirstTaken up one step cap n rest true t
first_all {cap = cap} {n = n} {rest = rest} h t = record { room = sym (le-leb rest (sum_to (at cap) n) h); taken = λ e. t }

-- Lines, source by source.

-- the same plants have the same steps
pub steps_as : {ss us : List Running} {step : List ℕ} {n : ℕ} → ((i : ℕ) → (state_at us i).plant ≡ (state_at ss i).plant) → Steps ss step n → Steps us step n
steps_as h s = record { long = s.long; each = λ i l. rw (h i) (s.each i l) }

steps_more : {ss : List Running} {step : List ℕ} {n x : ℕ} → n < lanes → Steps ss step n → x ≡ step_of (state_at ss n).plant → Steps ss (set step n x) (n + 1)
steps_more {ss} {step} {n} {x} m s e = record {
  long = length-set step n x ∙ s.long;
  each = rw (add-one n) (below_suc (λ i. at (set step n x) i ≡ step_of (state_at ss i).plant) n (λ i l. get_or-set_other step n i x 0 (λ q. omega arith) ∙ s.each i l)
      (get_or-set_same step n x 0 (omega (arith, s.long)) ∙ e));
}

pub lines_none : {ss : List Running} {step down room above head : List ℕ} → length step ≡ lanes → length down ≡ lanes → length room ≡ lanes → length above ≡ lanes → length head ≡ lanes → FirstLines ss step down room above head 0
lines_none a b c d e = record {
  steps = record { long = a; each = λ i l. absurd (omega arith) };
  lower = long_lines (record { long_one = b; long_step = a; long_cap = c });
  raise = long_lines (record { long_one = d; long_step = a; long_cap = e });
}

pub lines_all : {ss : List Running} {step down room above head : List ℕ} {n i : ℕ} → i ≤ n → n ≤ i → FirstLines ss step down room above head i → FirstLines ss step down room above head n
lines_all {n = n} {i = i} a b f = let e : i ≡ n = omega arith in rw e at f

module _ {ss : List Running} {step down room above head down' room' above' head' : List ℕ} {n : ℕ} (f : FirstLines ss step down room above head n) where
  -- one source more
  pub lines_next : {x : ℕ} → n < lanes → x ≡ step_of (state_at ss n).plant → Renewed (state_at ss n) n down room above head down' room' above' head' → FirstLines ss (set step n x) down' room' above' head' (n + 1)
  lines_next m e r = record {
    steps = steps_more m f.steps e;
    lower = ways.lines_next (Down Normal) f.lower m r.lower (ap (set step n) e);
    raise = ways.lines_next Up f.raise m r.raise (ap (set step n) e);
  }

  -- one of them in another state, of the same plant
  pub lines_renewed : {i : ℕ} {y : Running} → n ≤ lanes → i < n → i < length ss → y.plant ≡ (state_at ss i).plant → Renewed y i down room above head down' room' above' head' → FirstLines (set ss i y) step down' room' above' head' n
  lines_renewed {i} {y} m l b e r =
      let s : at step i ≡ step_of y.plant = f.steps.each i l ∙ ap step_of (sym e) in
      record {
        steps = steps_as same f.steps;
        lower = ways.lines_renewed (Down Normal) f.lower i y m l b r.lower s;
        raise = ways.lines_renewed Up f.raise i y m l b r.raise s;
      }
    where
      same : (k : ℕ) → (state_at (set ss i y) k).plant ≡ (state_at ss k).plant
      same k = elim (ℕ_discrete k i) [
        | yes q ↦ rw q (ap (λ (s : Running). s.plant) (get_or-set_same ss i y no_running b) ∙ e)
        | no q ↦ ap (λ (s : Running). s.plant) (get_or-set_other ss i k y no_running q)
      ]

-- What the first way takes, where it has room, is the remainder.

-- what may be moved of each source, and what moving it comes to
pub record Rest (number : InternalSequence) (n total took : ℕ) (ts : List Running) (taken : List ℕ) : Type 0 where
  pub within : (i : ℕ) → i < n → Within (ltb total took) (state_at ts i) (at taken i)
  pub ready : (i : ℕ) → i < n → Ready (shifted (ltb total took) (state_at ts i) (at taken i))
  pub moved : (us : List Running) → Shifted (ltb total took) ts n (at taken) us → remainder number n total took ts ≡ accepted us

module _ {ss : List Running} {step down room above head : List ℕ} {n : ℕ} (f : FirstLines ss step down room above head n) where
  pub first_lines : (up : Bool) → LinesOf (up_of (way_at up 0)) (way_of (way_at up 0)).room ss (pick up down above) step (pick up room head) n
  first_lines false = f.lower
  first_lines true = f.raise

  pub first_sources : n ≤ lanes → (up : Bool) → Sources (pick up down above) step (pick up room head) n
  first_sources l up = lines_sources (first_lines up) l

  module _ (number : InternalSequence) (total took rest : ℕ) (t : List ℕ) (ready : AllReady ss n) (d : rest ≡ apart total took) where
    side : (up : Bool) → up_of (way_at up 0) ≡ up
    side false = refl
    side true = refl

    some : (up : Bool) → 0 < tries up
    some false = omega arith
    some true = omega arith

    shift_first : (up : Bool) (s : Running) (k : ℕ) → Ready s → k ≤ (way_of (way_at up 0)).room s → Ready (shifted up s k)
    shift_first false s k g h = shift_ready g (moves.down k (omega (arith, room_last normal s)))
    shift_first true s k g h = shift_ready g (moves.up k h)

    pub first_rest : FirstTaken (ltb total took) (pick (ltb total took) down above) step (pick (ltb total took) room head) n rest true t → Rest number n total took ss t
    first_rest f =
        let way = way_at (ltb total took) 0 in
        let lines = first_lines (ltb total took) in
        let taken : Taken (up_of way) (pick (ltb total took) down above) step (pick (ltb total took) room head) n rest t = rw (side (ltb total took)) (f.taken refl) in
        let room : rest ≤ all (way_of way).room ss n = omega (arith, leb-true rest (sum_to (at (pick (ltb total took) room head)) n) (sym f.room), sum_to_same n (at (pick (ltb total took) room head)) (λ i. (way_of way).room (state_at ss i)) lines.rooms) in
        record {
          within = λ i l. rw (side (ltb total took)) at ((taken_within way lines ready taken).within i l);
          ready = λ i l. shift_first (ltb total took) (state_at ss i) (at t i) (ready.ready i) (omega (arith, taken.settled.fits i l, lines.rooms i l));
          moved = λ us s. remainder_by number n total took ss rest 0 way d refl (some (ltb total took)) short_none room ∙
              ap accepted (sym (engine_plain ready way (way_priced (ltb total took) 0 way refl) lines taken (rw (side (ltb total took)) s)));
        }

-- a source that is moved keeps its plant
pub shifted_plant : (up : Bool) (t y : Running) (m : ℕ) → y ≡ shifted up t m → y.plant ≡ t.plant
shifted_plant false t y m e = ap (λ (s : Running). s.plant) e
shifted_plant true t y m e = ap (λ (s : Running). s.plant) e
