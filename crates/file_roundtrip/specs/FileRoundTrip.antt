-- The spreadsheet file gives the written lines again, and every other file is refused.
--     file_stood        a file that is accepted is the writing of its lines: one `hour`, any deliveries, any internals and one `end`
--     refusal_is_16     a file is refused with 16 and a record's number only, which is one more than its bytes at most
--     enough_turns      more turns than the file has bytes change nothing
use Rattle.std.specs.Prelude.{◌≡◌, refl, true, List, [], ◌++◌, ℕ, ◌+◌, ◌≤◌, length}
use Rattle.std.proofs.Common.{ap, subst, ◌∙◌, append_assoc, arith, length-append}
use Rattle.rules.specs.Refusals.{accepted, refused, place_of}
use Rattle.rules.specs.Fields.{Field, got, malformed}
use Rattle.rules.specs.Report.{ReportLine}
use Rattle.rules.specs.Spreadsheet as spreadsheet
use Rattle.rules.specs.Spreadsheet.{crlf, header, file_text, headed, has_file, text_at, on_record, records_from, file_lines}
use Rattle.rules.specs.declared.Refusal.{Refusal}
use Rattle.rules.specs.declared.Refusal.TheVariants.{FileRecord}
use Rattle.laws.specs.Choices.{refused_not_accepted}
use Rattle.file_roundtrip.specs.Standing.{Standing, text_behind, text_stood}
use Rattle.file_roundtrip.specs.RecordsInTurn.{Numbered, records_stood, records_refused, records_enough}

-- "the header's being 1"
abbrev pub header_record : List ℕ
header_record = header ++ crlf []

header_stood : (s : List ℕ) (p : ℕ) → text_at s 0 header_record ≡ got tt p → Standing s 0 p (λ rest. header_record ++ rest)
header_stood s p e = text_stood header_record s 0 p refl e

pub file_stood : (s : List ℕ) (ls : List ReportLine) → file_lines s ≡ accepted ls → (s ≡ file_text ls) × (has_file ls ≡ true)
unfolding spreadsheet.file_text spreadsheet.has_file spreadsheet.file_lines
file_stood s ls e = go (text_at s 0 header_record) refl e
  where
    go : (x : Field (Unit {0})) → text_at s 0 header_record ≡ x
        → on_record x 1 (λ u p. records_from (length s) s headed 2 p) ≡ accepted ls → (s ≡ file_text ls) × (has_file ls ≡ true)
    go (got u p) x e =
        let r = records_stood s (length s) headed 2 p ls e in
        ((header_stood s p x).text ∙ append_assoc header (crlf []) _ ∙ ap (λ (l : List ℕ). header ++ crlf l) r.text, rw r.order r.fit)
    go malformed x e = refused_not_accepted (FileRecord 1) ls e

-- the header is the first record, of an empty file too, and each record that was passed has a byte at least
pub refusal_is_16 : (s : List ℕ) (r : Refusal) → file_lines s ≡ refused r → (r ≡ FileRecord (place_of r)) × (1 ≤ place_of r) × (place_of r ≤ length s + 1)
unfolding spreadsheet.file_lines
refusal_is_16 s r e = go (text_at s 0 header_record) refl e
  where
    go : (x : Field (Unit {0})) → text_at s 0 header_record ≡ x → on_record x 1 (λ u p. records_from (length s) s headed 2 p) ≡ refused r → Numbered (length s + 1) r
    go (got u p) x e =
        let t = header_stood s p x in
        let w = t.within (omega arith) in
        let k = text_behind s header_record 0 p t.text t.later w in
        let n = records_refused s (length s) headed 2 p r e (omega arith) (omega (arith, k, length-append header (crlf []))) w in
        (n.0, n.1, omega (arith, n.2))
    go malformed x e = let k : FileRecord 1 ≡ r = cc in subst (Numbered (length s + 1)) k (refl, omega arith, omega arith)

pub enough_turns : (s : List ℕ) (f : ℕ) → length s ≤ f → on_record (text_at s 0 (header ++ crlf [])) 1 (λ u p. records_from f s headed 2 p) ≡ file_lines s
unfolding spreadsheet.file_lines
enough_turns s f h = go (text_at s 0 header_record)
  where
    go : (x : Field (Unit {0})) → on_record x 1 (λ u p. records_from f s headed 2 p) ≡ on_record x 1 (λ u p. records_from (length s) s headed 2 p)
    go (got u p) = records_enough s f (length s) headed 2 p (omega arith) (omega arith)
    go malformed = refl
