-- The states at the hour's start and their lines, source by source; past the hour's sources there are blank ones.
use Rattle.std.specs.Prelude.{Bool, true, List, map, ◌≡◌, ℕ, ◌+◌, ◌≤◌, ◌<◌, length, get_or, set, replicate}
use Rattle.std.proofs.Common.{sym, ap, ◌∙◌, add-one, arith, length-set, get_or-set_same, get_or-set_other, ext_get_or}
use Rattle.std.proofs.Math.Decide.{dec_lt}
use Rattle.std.proofs.lemmas.List.{length-map, length-replicate, get_or-replicate}
use Rattle.std.proofs.Math.ListN.{get_or-map}
use Rattle.dispatch.specs.TakenIsPlain.{LinesOf}
use Rattle.group.specs.FirstWay.{FirstLines, Renewed, lines_next}
use Rattle.ladder.specs.Ready.{step_of}
use Rattle.laws.specs.Sums.{below_suc}
use Rattle.merit.specs.LevelNeverBelowB.{state_at}
use Rattle.roundtrip.specs.GivenHour.{valid_given}
use Rattle.rules.specs.Group.{no_running, opened}
use Rattle.rules.specs.Record.{no_source}
use Rattle.rules.specs.Writing.{valid}
use Rattle.rules.specs.declared.Hour.{Hour}
use Rattle.rules.specs.declared.Plant.{Plant}
use Rattle.rules.specs.declared.Plant.TheVariants.{Fixed}
use Rattle.rules.specs.declared.Running.{Running}
use Rattle.rules.specs.declared.Source.{Source}

-- of a blank entry
abbrev pub no_plant : Plant
no_plant = Fixed 0

abbrev opened_as : Source → Running
opened_as s = opened s.plant

-- the first n are opened, the others blank
pub record Opened (xs : List Source) (n : ℕ) (ss : List Running) : Type 0 where
  pub long : length ss ≡ 32
  pub at : (i : ℕ) → i < n → state_at ss i ≡ opened (get_or xs i no_source).plant
  pub rest : (i : ℕ) → n ≤ i → i < 32 → state_at ss i ≡ opened no_plant

module _ (xs : List Source) where
  pub opened_none : Opened xs 0 (replicate 32 (opened no_plant))
  opened_none = record { long = length-replicate 32 (opened no_plant); at = λ i l. absurd (omega arith); rest = λ i l m. get_or-replicate 32 i (opened no_plant) no_running m }

  pub opened_more : (ss : List Running) (n : ℕ) (s : Running) → n < 32 → Opened xs n ss → s ≡ opened (get_or xs n no_source).plant → Opened xs (n + 1) (set ss n s)
  opened_more ss n s l o e = record {
    long = length-set ss n s ∙ o.long;
    at = rw (add-one n)
        (below_suc (λ i. state_at (set ss n s) i ≡ opened (get_or xs i no_source).plant) n
        (λ i m. get_or-set_other ss n i s no_running (λ q. omega arith) ∙ o.at i m)
        (get_or-set_same ss n s no_running (omega (arith, o.long)) ∙ e));
    rest = λ i m k. get_or-set_other ss n i s no_running (λ q. omega arith) ∙ o.rest i (omega arith) k;
  }

pub opened_all : (h : Hour) (ss : List Running) (n : ℕ) → valid h ≡ true → n ≤ h.nsources → h.nsources ≤ n → Opened h.sources n ss → ss ≡ map (λ s. opened s.plant) h.sources
opened_all h ss n v a b o =
    let g = (valid_given h v).sources in
    ext_get_or no_running ss (map opened_as h.sources) (o.long ∙ sym g.size ∙ sym (length-map h.sources opened_as))
    (λ i m. (elim (dec_lt i n) [
      | yes l ↦ o.at i l
      | no l ↦ o.rest i (omega arith) (omega (arith, o.long)) ∙ sym (ap opened_as (g.rest i (omega arith) (omega (arith, o.long))))
    ]) ∙ sym (get_or-map opened_as h.sources i no_source))

-- lines of the first n sources tell nothing of the others
module _ {n : ℕ} {ss us : List Running} (same : (i : ℕ) → i < n → state_at us i ≡ state_at ss i) where
  lines_as : {up : Bool} {room_of : Running → ℕ} {one step cap : List ℕ} → LinesOf up room_of ss one step cap n → LinesOf up room_of us one step cap n
  lines_as s = record {
    long_one = s.long_one;
    long_step = s.long_step;
    long_cap = s.long_cap;
    lined = λ i l. rw (same i l) (s.lined i l);
    rooms = λ i l. rw (same i l) (s.rooms i l);
  }

  first_as : {step down room above head : List ℕ} → FirstLines ss step down room above head n → FirstLines us step down room above head n
  first_as f = record {
    steps = record { long = f.steps.long; each = λ i l. rw (same i l) (f.steps.each i l) };
    lower = lines_as f.lower;
    raise = lines_as f.raise;
  }

-- one source opened, and its lines
pub lines_opened : {ss : List Running} {step down room above head down' room' above' head' : List ℕ} {n x : ℕ} {s : Running} → FirstLines ss step down room above head n → n < 32 → length ss ≡ 32 → x ≡ step_of s.plant
    → Renewed s n down room above head down' room' above' head' → FirstLines (set ss n s) (set step n x) down' room' above' head' (n + 1)
lines_opened {ss} {n = n} {s = s} f l long e r =
    let here : state_at (set ss n s) n ≡ s = get_or-set_same ss n s no_running (omega arith) in
    lines_next (first_as (λ i m. get_or-set_other ss n i s no_running (λ q. omega arith)) f) l (rw here e) (rw here r)
