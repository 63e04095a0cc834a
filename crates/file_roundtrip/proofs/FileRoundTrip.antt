-- The spreadsheet file gives the written lines again.
--     file_read         reading the writing of lines that have a file gives those lines
--     file_exactly      a file is accepted with ls exactly where it is the writing of ls, and ls has a file
--     one_list_only     two lists that have a file, and the same one, are the same list
use Rattle.std.specs.Prelude.{◌≡◌, refl, ◌↔◌, true, List, [], ◌++◌, ℕ, length}
use Rattle.std.proofs.Common.{ap, sym, ◌∙◌, append_assoc, arith}
use Rattle.rules.specs.Refusals.{accepted}
use Rattle.rules.specs.Report.{ReportLine}
use Rattle.rules.specs.Spreadsheet as spreadsheet
use Rattle.rules.specs.Spreadsheet.{crlf, record_texts, header, file_text, headed, in_order, all_lines_fit, has_file, file_lines}
use Rattle.laws.specs.Choices.{both_true, accepted_same}
use Rattle.file_roundtrip.specs.Standing.{text_read}
use Rattle.file_roundtrip.proofs.RecordsInTurn.{records_read}
use Rattle.file_roundtrip.specs.FileRoundTrip.{header_record, file_stood}

pub file_read : (ls : List ReportLine) → has_file ls ≡ true → file_lines (file_text ls) ≡ accepted ls
unfolding spreadsheet.file_text spreadsheet.has_file spreadsheet.file_lines
file_read ls f =
    let s = header ++ crlf (record_texts ls) in
    let b = both_true (in_order headed ls) (all_lines_fit ls) f in
    let r = text_read header_record s (record_texts ls) 0 (sym (append_assoc header (crlf []) (record_texts ls))) in
    rw r.is (records_read s (length s) ls headed 2 r.next (omega arith) refl b.0 b.1 r.past)

pub file_exactly : (s : List ℕ) (ls : List ReportLine) → (file_lines s ≡ accepted ls) ↔ ((s ≡ file_text ls) × (has_file ls ≡ true))
file_exactly s ls = (file_stood s ls, λ w. ap file_lines w.0 ∙ file_read ls w.1)

pub one_list_only : (ls ms : List ReportLine) → has_file ls ≡ true → has_file ms ≡ true → file_text ls ≡ file_text ms → ls ≡ ms
one_list_only ls ms f g e = accepted_same ls ms (sym (file_read ls f) ∙ ap file_lines e ∙ file_read ms g)
