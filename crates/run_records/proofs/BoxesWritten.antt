-- The boxes of a record, written one after the other.
use Rattle.std.proofs.Common.{◌≡◌, ℕ, zero, suc, ◌+◌, List, [], ◌∷◌, ◌++◌, ap, sym, ◌∙◌, drop, Some, slice_get, arith}
use Rattle.std.proofs.lemmas.Option.{same_Some, none-some}
use Rattle.loose_records.specs.declared.record.BoxEntry.{BoxEntry}
use Rattle.report_text.proofs.WritingLemmas.{piece_written}
use Rattle.run_records.specs.RecordTexts.{box_lines, boxes_text}

-- the box at a place is the first of those from there on
boxes_from : (k : ℕ) (boxes : List (List BoxEntry)) (n : ℕ) (entries : List BoxEntry) →
    slice_get boxes n ≡ Some entries →
    boxes_text k (drop n boxes) ≡ box_lines k entries ++ boxes_text (suc k) (drop (n + 1) boxes)
boxes_from k [] n entries at = absurd (none-some entries at)
boxes_from k (b ∷ boxes) zero entries at =
    ap (λ (es : List BoxEntry). box_lines k es ++ boxes_text (suc k) boxes) (same_Some b entries at)
boxes_from k (b ∷ boxes) (suc n) entries at =
    let more : suc n + 1 ≡ suc (n + 1) = omega arith in rw more (boxes_from k boxes n entries at)

-- the box at a place is written
pub box_written : (boxes : List (List BoxEntry)) (n : ℕ) (entries : List BoxEntry) (text after whole : List ℕ) →
    slice_get boxes n ≡ Some entries → after ≡ text ++ box_lines n entries →
    text ++ boxes_text n (drop n boxes) ≡ whole → after ++ boxes_text (n + 1) (drop (n + 1) boxes) ≡ whole
box_written boxes n entries text after whole here written e =
    let next : n + 1 ≡ suc n = omega arith in
    piece_written text (box_lines n entries) (boxes_text n (drop n boxes)) (boxes_text (n + 1) (drop (n + 1) boxes))
    after whole written
    (boxes_from n boxes n entries here
    ∙ ap (λ (k : ℕ). box_lines n entries ++ boxes_text k (drop (n + 1) boxes)) (sym next)) e
