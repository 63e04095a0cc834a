-- The report's lines as what is written one after another.
use Rattle.std.specs.Prelude.{◌≡◌, refl, List, [], ◌∷◌, ◌++◌, ℕ, ◌+◌, length, get_or, ℤ, pos}
use Rattle.std.proofs.Common.{ap, sym, ◌∙◌, append_assoc, arith, length-append}
use Rattle.rules.specs.Words.{text}
use Rattle.rules.specs.Refusals.{number_of, place_of}
use Rattle.rules.specs.Fields.{digits, escape, Chars}
use Rattle.rules.specs.Report as report
use Rattle.rules.specs.Report.{ReportLine, hour, pair, internal, end, refusal, signed_text, label_text, ◌␣◌, amounts_text, report_text}
use Rattle.rules.specs.declared.InternalSequence.{InternalSequence}
use Rattle.rules.specs.declared.Refusal.{Refusal}
use Rattle.write_fields.specs.Inked as inked
use Rattle.write_fields.specs.Inked.{Text, Front, front_byte, front_list, front_then}
use Rattle.write_fields.specs.Texts.{spaced_text, front_spaced}
use Rattle.write_amounts.specs.Amounts.{signed_after, amounts_after, amounts_size, front_amounts, amounts_first, amounts_size_lem}

-- a label's own bytes between quotes
abbrev pub part_text : List ℕ → Text
part_text w rest = 34 ∷ w ++ (34 ∷ rest)

-- a signed number after a space, the one at an index of a list, and a list's
abbrev pub signed_spaced : ℤ → Text
signed_spaced z = signed_after 32 z

abbrev pub amount_at : List ℤ → ℕ → Text
amount_at zs i = signed_spaced (get_or zs i (pos 0))

abbrev pub spaced_amounts : List ℤ → Text
spaced_amounts zs = amounts_after 32 zs

-- what comes after a source's label: its quote, the amounts and LF
abbrev pub tail_text : List ℤ → Text
tail_text zs rest = 34 ∷ spaced_amounts zs (10 ∷ rest)

-- a line of a head's bytes, which stand before the source's label, of the label's own bytes and of amounts
abbrev pub line_text : List ℕ → List ℕ → List ℤ → Text
line_text head s zs rest = head ++ (s ++ tail_text zs rest)

-- the head that all pairs of a delivery share, and that of a source's open line
abbrev pub head_text : List ℕ → InternalSequence → Text
head_text d n rest = part_text d (spaced_text n.0 (32 ∷ 34 ∷ rest))

abbrev pub open_text : List ℕ → List ℤ → Text
open_text s zs = line_text (text "internal \"") s zs

-- a line with its LF
abbrev pub printed : ReportLine → Text
printed l rest = report_text l ++ (10 ∷ rest)

-- The rest stands after each.

pub front_part : (w : List ℕ) → Front (part_text w)
front_part w = front_then (front_list (34 ∷ w)) (front_byte 34)

pub front_tail : (zs : List ℤ) → Front (tail_text zs)
front_tail zs = front_then (front_byte 34) (front_then (front_amounts 32 zs) (front_byte 10))

pub front_line : (head s : List ℕ) (zs : List ℤ) → Front (line_text head s zs)
front_line head s zs = front_then (front_list head) (front_then (front_list s) (front_tail zs))

pub front_printed : (l : ReportLine) → Front (printed l)
front_printed l = front_then (front_list (report_text l)) (front_byte 10)

-- The lines.

-- a head's bytes before what comes after them
head_then : (d : List ℕ) (n : InternalSequence) (w : List ℕ) → head_text d n [] ++ w ≡ head_text d n w
head_then d n w =
    ap (λ (l : List ℕ). 34 ∷ l) (append_assoc d (34 ∷ 32 ∷ digits n.0 ++ (32 ∷ 34 ∷ [])) w)
    ∙ ap (λ (l : List ℕ). part_text d (32 ∷ l)) (append_assoc (digits n.0) (32 ∷ 34 ∷ []) w)

-- amounts one by one
amounts_then : (zs : List ℤ) (rest : List ℕ) → amounts_text zs ++ rest ≡ spaced_amounts zs rest
unfolding report.amounts_text inked.up_to
amounts_then [] rest = refl
amounts_then (z ∷ zs) rest =
    ap (λ (w : List ℕ). 32 ∷ w) (append_assoc (signed_text z) (amounts_text zs) rest) ∙ ap (signed_spaced z) (amounts_then zs rest)
    ∙ sym (amounts_first 32 z zs rest)

-- what comes after a space, said another way
spaced_then : (x y z rest : List ℕ) → y ++ rest ≡ z → (x ␣ y) ++ rest ≡ x ++ (32 ∷ z)
spaced_then x y z rest e = append_assoc x (32 ∷ y) rest ∙ ap (λ (w : List ℕ). x ++ (32 ∷ w)) e

label_last : (cs : Chars) (y z rest : List ℕ) → y ++ rest ≡ z → (label_text cs ++ y) ++ rest ≡ part_text (escape cs) z
label_last cs y z rest e =
    append_assoc (label_text cs) y rest ∙ ap (λ (w : List ℕ). label_text cs ++ w) e ∙ ap (λ (w : List ℕ). 34 ∷ w) (append_assoc (escape cs) (34 ∷ []) z)

label_then : (cs : Chars) (y z rest : List ℕ) → y ++ rest ≡ z → (label_text cs ␣ y) ++ rest ≡ part_text (escape cs) (32 ∷ z)
label_then cs y z rest e = label_last cs (32 ∷ y) (32 ∷ z) rest (ap (λ (w : List ℕ). 32 ∷ w) e)

pub hour_line : (zs : List ℤ) (rest : List ℕ) → text "hour" ++ spaced_amounts zs (10 ∷ rest) ≡ printed (hour zs) rest
unfolding report.report_text
hour_line zs rest = sym (append_assoc (text "hour") (amounts_text zs) (10 ∷ rest) ∙ ap (λ (w : List ℕ). text "hour" ++ w) (amounts_then zs (10 ∷ rest)))

pub pair_line_lem : (d : Chars) (n : InternalSequence) (s : Chars) (zs : List ℤ) (rest : List ℕ) → line_text (head_text (escape d) n []) (escape s) zs rest ≡ printed (pair d (pos n.0) s zs) rest
unfolding report.report_text
pair_line_lem d n s zs rest =
    let end : List ℕ = 10 ∷ rest in
    head_then (escape d) n (escape s ++ tail_text zs rest)
    ∙ sym (label_then d _ _ end (spaced_then (digits n.0) _ _ end (label_last s (amounts_text zs) _ end (amounts_then zs end))))

pub open_line_lem : (s : Chars) (zs : List ℤ) (rest : List ℕ) → open_text (escape s) zs rest ≡ printed (internal s zs) rest
unfolding report.report_text
open_line_lem s zs rest =
    let end : List ℕ = 10 ∷ rest in
    sym (ap (λ (w : List ℕ). text "internal " ++ w) (label_last s (amounts_text zs) _ end (amounts_then zs end)))

pub end_line_lem : (rest : List ℕ) → text "end\n" ++ rest ≡ printed end rest
unfolding report.report_text
end_line_lem rest = refl

pub refusal_line : (n p : ℕ) (rest : List ℕ) → text "refused" ++ spaced_text n (spaced_text p (10 ∷ rest)) ≡ printed (refusal n p) rest
unfolding report.report_text
refusal_line n p rest = sym (ap (λ (w : List ℕ). text "refused " ++ w) (spaced_then (digits n) (digits p) _ (10 ∷ rest) refl))

-- a refusal's number and place, said another way
pub refusal_of : (r : Refusal) (n p : ℕ) → n ≡ number_of r → p ≡ place_of r → (rest : List ℕ) → text "refused" ++ spaced_text n (spaced_text p (10 ∷ rest)) ≡ printed (refusal (number_of r) (place_of r)) rest
refusal_of r n p e f rest = rw (e, f) (refusal_line (number_of r) (place_of r) rest)

-- Lengths: of a line as the sum of its pieces'.

pub spaced_length : (v : ℕ) → length (spaced_text v []) ≡ length (digits v) + 1
spaced_length v = omega (arith, length-append (digits v) [])

pub line_length : (head s : List ℕ) (zs : List ℤ) → length (line_text head s zs []) ≡ length head + length s + amounts_size zs + 2
line_length head s zs = omega (arith, length-append head (s ++ tail_text zs []), length-append s (tail_text zs []), (front_amounts 32 zs).longer (10 ∷ []), amounts_size_lem 32 zs)

pub hour_length : (zs : List ℤ) → length (printed (hour zs) []) ≡ amounts_size zs + 5
hour_length zs = omega (arith, ap length (hour_line zs []), (front_amounts 32 zs).longer (10 ∷ []), amounts_size_lem 32 zs)

pub refusal_length : (n p : ℕ) → length (printed (refusal n p) []) ≡ length (spaced_text n []) + length (spaced_text p []) + 8
refusal_length n p =
    let a = spaced_text p (10 ∷ []) in
    omega (arith, ap length (refusal_line n p []), (front_spaced n).longer a, (front_spaced p).longer (10 ∷ []))
