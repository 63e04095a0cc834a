-- An hour's deck as its lines one after another.
use Rattle.std.specs.Prelude.{◌≡◌, refl, true, List, [], ◌∷◌, ◌++◌, ℕ, zero, suc, ◌≤◌, ◌<◌, length, drop}
use Rattle.std.proofs.Common.{ap, sym, ◌∙◌, arith}
use Rattle.rules.specs.Words as words
use Rattle.rules.specs.Words.{list_to}
use Rattle.rules.specs.Lines.{Line, line_text}
use Rattle.rules.specs.Record as entries
use Rattle.rules.specs.Record.{source_at, delivery_at, direct_at, source_line, delivery_line, direct_line, head_line, end_line, body}
use Rattle.rules.specs.Writing as writing
use Rattle.rules.specs.Writing.{texts, deck_text, valid}
use Rattle.rules.specs.declared.Hour.{Hour}
use Rattle.roundtrip.specs.GivenHour.{valid_given}
use Rattle.write_fields.specs.Inked as inked
use Rattle.write_fields.specs.Inked.{Text, Room, Inked, inked_place, inked_first, up_to}

-- the line of each entry
abbrev pub source_text : Hour → ℕ → Text
source_text h i = line_text (source_line (source_at h i))

abbrev pub delivery_text : Hour → ℕ → Text
delivery_text h i = line_text (delivery_line (delivery_at h i))

abbrev pub direct_text : Hour → ℕ → Text
direct_text h i = line_text (direct_line h (direct_at h i))

-- the deck, before any rest
abbrev pub hour_text : Hour → Text
hour_text h rest =
    line_text (head_line h) (up_to (source_text h) h.nsources (up_to (delivery_text h) h.ndeliveries (up_to (direct_text h) h.ndirects (line_text end_line rest))))

texts_append : (ls ms : List Line) (rest : List ℕ) → texts (ls ++ ms) rest ≡ texts ls (texts ms rest)
unfolding writing.texts
texts_append [] ms rest = refl
texts_append (l ∷ ls) ms rest = ap (line_text l) (texts_append ls ms rest)

texts_up_to : (f : ℕ → Line) (n : ℕ) (rest : List ℕ) → texts (list_to (λ i. f i ∷ []) n) rest ≡ up_to (λ i. line_text (f i)) n rest
unfolding words.list_to writing.texts inked.up_to
texts_up_to f zero rest = refl
texts_up_to f (suc n) rest = texts_append (list_to (λ i. f i ∷ []) n) (f n ∷ []) rest ∙ texts_up_to f n (line_text (f n) rest)

pub hour_deck : (h : Hour) → hour_text h [] ≡ deck_text h
unfolding writing.deck_text entries.body
hour_deck h =
    let a = list_to (λ i. source_line (source_at h i) ∷ []) h.nsources in
    let b = list_to (λ i. delivery_line (delivery_at h i) ∷ []) h.ndeliveries in
    let c = list_to (λ i. direct_line h (direct_at h i) ∷ []) h.ndirects in
    let end = line_text end_line [] in
    let inner : texts (b ++ c) end ≡ up_to (delivery_text h) h.ndeliveries (up_to (direct_text h) h.ndirects end) =
    texts_append b c end ∙ texts_up_to (λ i. delivery_line (delivery_at h i)) h.ndeliveries (texts c end)
    ∙ ap (up_to (delivery_text h) h.ndeliveries) (texts_up_to (λ i. direct_line h (direct_at h i)) h.ndirects end) in
    sym (ap (line_text (head_line h)) (texts_append a (b ++ c) end ∙ texts_up_to (λ i. source_line (source_at h i)) h.nsources (texts (b ++ c) end) ∙ ap (up_to (source_text h) h.nsources) inner))

-- it has room from 0 on where the deck has, and written there it is the deck
module _ (h : Hour) (a : List ℕ) (fits : length (deck_text h) ≤ length a) where
  pub deck_room : Room a 0 (hour_text h [])
  deck_room = record { fits = omega (arith, ap length (hour_deck h)) }

  pub deck_written : (b : List ℕ) (n : ℕ) → Inked a 0 b n (hour_text h) → (n ≡ length (deck_text h)) × (b ≡ deck_text h ++ drop (length (deck_text h)) a)
  deck_written b n e = (
    omega (arith, inked_place e, ap length (hour_deck h)),
    inked_first e deck_room ∙ ap (λ (w : List ℕ). w ++ drop (length w) a) (hour_deck h),
  )

-- a D line names entries of the record's lists
pub named_within : (h : Hour) → valid h ≡ true → (i : ℕ) → i < h.ndirects → ((direct_at h i).source < 32) × ((direct_at h i).delivery < 32)
named_within h v i lt =
    let g = valid_given h v in
    let d = g.directs.entry i lt in
    (omega (arith, d.source, g.sources.few), omega (arith, d.delivery, g.deliveries.few))
