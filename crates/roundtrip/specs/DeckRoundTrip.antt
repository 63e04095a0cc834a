-- Every deck that is accepted is the writing of its hour, byte for byte; the writing of every valid hour is read back to it;
-- and the valid hours are just those that some deck gives.
--     accepted_is_writing     reading s ≡ accepted h → s ≡ deck_text h
--     valid_reads_back        valid h ≡ true → reading (deck_text h) ≡ accepted h
--     accepted_is_valid       reading s ≡ accepted h → valid h ≡ true
--     no_deck_gives           valid h ≡ false → no deck gives h
--     same_hour_same_deck     two decks of one hour are the same bytes
use Rattle.std.specs.Prelude.{◌≡◌, true, false, List, ℕ}
use Rattle.std.proofs.Common.{sym, ◌∙◌}
use Rattle.rules.specs.Refusals.{accepted}
use Rattle.rules.specs.Reading.{reading}
use Rattle.rules.specs.Writing.{deck_text, valid}
use Rattle.rules.specs.declared.Hour.{Hour}
use Rattle.laws.specs.Choices.{true_not_false}
use Rattle.roundtrip.specs.OwnLines.{own_valid}
use Rattle.roundtrip.specs.AcceptedIsWriting.{reading_stands}
use Rattle.roundtrip.specs.ValidReadsBack.{valid_read}

pub accepted_is_writing : (s : List ℕ) (h : Hour) → reading s ≡ accepted h → s ≡ deck_text h
accepted_is_writing s h e = (reading_stands s h e).text

pub valid_reads_back : (h : Hour) → valid h ≡ true → reading (deck_text h) ≡ accepted h
valid_reads_back h v = valid_read h v

pub accepted_is_valid : (s : List ℕ) (h : Hour) → reading s ≡ accepted h → valid h ≡ true
accepted_is_valid s h e = own_valid h (reading_stands s h e).own

pub no_deck_gives : (h : Hour) → valid h ≡ false → (s : List ℕ) → reading s ≡ accepted h → ⊥
no_deck_gives h v s e = true_not_false (sym (accepted_is_valid s h e) ∙ v)

pub same_hour_same_deck : (s t : List ℕ) (h : Hour) → reading s ≡ accepted h → reading t ≡ accepted h → s ≡ t
same_hour_same_deck s t h a b = accepted_is_writing s h a ∙ sym (accepted_is_writing t h b)
