-- An hour is valid exactly when its own lines give it.
use Rattle.std.specs.Prelude.{◌≡◌, refl, true, not}
use Rattle.std.proofs.Common.{ap, sym, ◌∙◌}
use Rattle.rules.specs.Refusals.{Outcome, accepted, refused, and_then}
use Rattle.rules.specs.Record.{started, head_line, body}
use Rattle.rules.specs.Reading as reading
use Rattle.rules.specs.Reading.{feed, headed, finished}
use Rattle.rules.specs.Writing as writing
use Rattle.rules.specs.Writing.{all_labelled, given, gives, valid}
use Rattle.rules.specs.declared.Hour.{Hour}
use Rattle.rules.specs.declared.Refusal.TheVariants.{Range}
use Rattle.laws.specs.Choices.{false_not_true, both_true, not_false, accepted_same, refuse_passed, then_passed}
use Rattle.roundtrip.specs.Lines.{line_ranged}
use Rattle.roundtrip.specs.Taken.{finished_passed}
use Rattle.roundtrip.specs.Entries.{Entries, started_entries}
use Rattle.roundtrip.specs.Grown.{fed_grown}
use Rattle.roundtrip.specs.SameHour.{same_hour_lem}

pub record OwnLines (h : Hour) : Type 0 where
  pub head : headed (head_line h) ≡ accepted (started h.losses)
  pub fed : feed (started h.losses) (body h) ≡ accepted h
  pub done : finished h ≡ accepted h
  pub labels : all_labelled (body h) ≡ true

-- the H line starts the hour
pub head_passed : (h start : Hour) → headed (head_line h) ≡ accepted start → (line_ranged (head_line h) ≡ true) × (started h.losses ≡ start)
unfolding reading.headed
head_passed h start e =
    let a = refuse_passed (not (line_ranged (head_line h))) (Range 1) (accepted (started h.losses)) start e in
    (not_false _ a.0, accepted_same (started h.losses) start a.1)

given_own : (h : Hour) → all_labelled (body h) ≡ true → given h ≡ accepted h → OwnLines h
unfolding writing.given
given_own h lb g =
    let a = then_passed (headed (head_line h)) (λ start. and_then (feed start (body h)) finished) h g in
    let b = then_passed (feed a.mid (body h)) finished h a.second in
    let start : started h.losses ≡ a.mid = (head_passed h a.mid a.first).1 in
    let end : b.mid ≡ h = (finished_passed b.mid h b.second).same in
    record {
      head = a.first ∙ ap accepted (sym start);
      fed = ap (λ (m : Hour). feed m (body h)) start ∙ b.first ∙ ap accepted end;
      done = ap finished (sym end) ∙ b.second;
      labels = lb;
    }

gives_accepted : (x : Outcome Hour) (h : Hour) → gives x h ≡ true → x ≡ accepted h
gives_accepted (accepted m) h e = ap accepted ((same_hour_lem m h).0 e)
gives_accepted (refused r) h e = false_not_true e

pub valid_own : (h : Hour) → valid h ≡ true → OwnLines h
unfolding writing.valid
valid_own h v =
    let p = both_true (all_labelled (body h)) (gives (given h) h) v in
    given_own h p.0 (gives_accepted (given h) h p.1)

pub own_valid : (h : Hour) → OwnLines h → valid h ≡ true
unfolding writing.valid writing.given
own_valid h o = rw (o.labels, o.head, o.fed, o.done) ((same_hour_lem h h).1 refl)

-- its entries are those of lines that were taken
pub own_entries : (h : Hour) → OwnLines h → Entries h
own_entries h o = (fed_grown (body h) (started h.losses) h (started_entries h.losses) o.fed).entries
