-- Where the first line `%%` stands, line by line.
use Rattle.std.proofs.Common.{◌≡◌, ◌≢◌, ℕ, zero, suc, ◌+◌, ◌-◌, ◌<◌, ◌≤◌, ◌⊎◌, List, [], ◌∷◌, ◌++◌, length}
use Rattle.std.proofs.Common.{get_or, take, drop, refl, sym, ap, ◌∙◌, subst, inl, inr, arith, length-append}
use Rattle.std.specs.Prelude.{codes}
use Rattle.std.proofs.lemmas.Bool.{cases_lt}
use Rattle.std.proofs.lemmas.List.{take-append-drop, get_or-drop, get_or-take, length-take-le, length-drop}
use Rattle.std.proofs.lemmas.List.{drop_all}
use Rattle.std.proofs.Math.Nat.{eq-or-lt_of_le}
use Rattle.std.proofs.Math.Seq.{get_or-append_seam, take-suc, take-append_seam, drop-append_seam}
use Rattle.std.proofs.Math.ListN.{get_or-append}
use Rattle.seuss_run.specs.Splits.{EndsLine, IsMarker, SplitsAt, IsFirstSplit, IsUnsplit, IsSplit}

-- the first line of these bytes has this length, with its line feed where it has one
pub record IsLine (bytes : List ℕ) (len : ℕ) : Type 0 where
  pub some : 0 < len
  pub within : len ≤ length bytes
  pub inside : (k : ℕ) → k + 1 < len → get_or bytes k 0 ≢ 10
  pub ended : (get_or bytes (len - 1) 0 ≡ 10) ⊎ (len ≡ length bytes)

-- whole lines stand before this place, and the first line `%%` begins there or after it
pub record IsPast (bytes : List ℕ) (start : ℕ) : Type 0 where
  pub within : start ≤ length bytes
  pub lines : start < length bytes → EndsLine (take start bytes)
  pub none : (other rest : List ℕ) → SplitsAt bytes other rest → start ≤ length other

-- at the first byte nothing is passed
pub past_start : (bytes : List ℕ) → IsPast bytes 0
past_start bytes = record {
  within = omega arith;
  lines = λ some. inl refl;
  none = λ other rest s. omega arith;
}

-- the last byte of whole lines is a line feed
last_feed : (lines : List ℕ) → EndsLine lines → 0 < length lines →
    get_or lines (length lines - 1) 0 ≡ 10
last_feed lines (inl e) some = absurd (let z : length lines ≡ 0 = ap length e in omega arith)
last_feed lines (inr (front, e)) some =
    let n : length lines - 1 ≡ length front = omega (arith, ap length e, length-append front (10 ∷ [])) in
    rw (n, e) (get_or-append_seam front 10 [] 0)

-- no line is shorter than the first line
not_shorter : (bytes : List ℕ) (n m : ℕ) → IsLine bytes n → IsLine bytes m → n < m → ⊥
not_shorter bytes n m a b less =
    elim a.ended [ inl e ↦ b.inside (n - 1) (omega (arith, a.some)) e | inr e ↦ omega (arith, b.within) ]

-- there is one first line
line_same : (bytes : List ℕ) (n m : ℕ) → IsLine bytes n → IsLine bytes m → n ≡ m
line_same bytes n m a b =
    let up : n < m → ⊥ = not_shorter bytes n m a b in
    let down : m < n → ⊥ = not_shorter bytes m n b a in
    omega arith

-- no byte inside of a marker is a line feed
feed_inside : (k : ℕ) (behind : List ℕ) → k + 1 < 3 → get_or (37 ∷ 37 ∷ 10 ∷ behind) k 0 ≢ 10
feed_inside zero behind h e = omega arith
feed_inside (suc zero) behind h e = omega arith
feed_inside (suc (suc k)) behind h e = omega arith

return_inside : (k : ℕ) (behind : List ℕ) → k + 1 < 4 → get_or (37 ∷ 37 ∷ 13 ∷ 10 ∷ behind) k 0 ≢ 10
return_inside zero behind h e = omega arith
return_inside (suc zero) behind h e = omega arith
return_inside (suc (suc zero)) behind h e = omega arith
return_inside (suc (suc (suc k))) behind h e = omega arith

alone_inside : (k : ℕ) → k + 1 < 2 → ◌≢◌ {A = ℕ} (get_or (37 ∷ 37 ∷ []) k 0) 10
alone_inside zero h e = omega arith
alone_inside (suc k) h e = omega arith

-- a marker is a whole line
marker_len : (marker behind : List ℕ) → IsMarker marker behind → IsLine (marker ++ behind) (length marker)
marker_len marker behind (inl e) =
    subst (λ m. IsLine (m ++ behind) (length m)) (sym e)
    (record {
      some = omega arith;
      within = omega arith;
      inside = λ k. feed_inside k behind;
      ended = inl refl;
    })
marker_len marker behind (inr (inl e)) =
    subst (λ m. IsLine (m ++ behind) (length m)) (sym e)
    (record {
      some = omega arith;
      within = omega arith;
      inside = λ k. return_inside k behind;
      ended = inl refl;
    })
marker_len marker behind (inr (inr (e, none))) =
    subst (λ m. IsLine (m ++ behind) (length m)) (sym e)
    (subst (λ b. IsLine (37 ∷ 37 ∷ b) 2) (sym none)
    (record { some = omega arith; within = omega arith; inside = alone_inside; ended = inr refl }))

-- the first line of bytes that a marker begins is the marker
marker_line : (marker behind bytes : List ℕ) (len : ℕ) → bytes ≡ marker ++ behind → IsMarker marker behind →
    IsLine bytes len → take len bytes ≡ marker
marker_line marker behind bytes len e m line =
    let n : len ≡ length marker =
    line_same (marker ++ behind) len (length marker) (subst (λ b. IsLine b len) e line)
    (marker_len marker behind m) in
    rw (n, e) (take-append_seam marker behind)

-- after a line that isn't the last the next one begins
past_lines : (bytes : List ℕ) (start len : ℕ) → IsLine (drop start bytes) len → start + len < length bytes →
    EndsLine (take (start + len) bytes)
past_lines bytes start len line left =
    elim line.ended [
      | inl e ↦ let at : suc (start + (len - 1)) ≡ start + len = omega (arith, line.some) in
          inr (
            take (start + (len - 1)) bytes,
            ap (λ n. take n bytes) (sym at) ∙ take-suc bytes (start + (len - 1)) 0 (omega arith) ∙
                ap (λ b. take (start + (len - 1)) bytes ++ b ∷ [])
                (sym (get_or-drop start bytes (len - 1) 0) ∙ e),
          )
      | inr e ↦ absurd (omega (arith, length-drop start bytes))
    ]

-- no marker line begins inside of a line
none_inside : (bytes other rest : List ℕ) (start len : ℕ) → IsLine (drop start bytes) len →
    SplitsAt bytes other rest → start < length other → length other < start + len → ⊥
none_inside bytes other rest start len line s from to =
    line.inside (length other - 1 - start) (omega arith)
    (get_or-drop start bytes (length other - 1 - start) 0 ∙
    (let at : start + (length other - 1 - start) ≡ length other - 1 = omega arith in
    ap (λ k. get_or bytes k 0) at) ∙
    ap (λ b. get_or b (length other - 1) 0) s.spelled ∙
    get_or-append other (s.marker ++ rest) 0 (length other - 1) (omega arith) ∙
    last_feed other s.lines (omega arith))

-- the line at a place where the bytes are split is a marker
is_marker_there : (bytes other rest : List ℕ) (start : ℕ) (s : SplitsAt bytes other rest) →
    start ≡ length other → drop start bytes ≡ s.marker ++ rest
is_marker_there bytes other rest start s e =
    rw (e, s.spelled) (drop-append_seam other (s.marker ++ rest))

-- where the line is no marker, the first one begins after it
none_before : (bytes other rest : List ℕ) (start len : ℕ) → IsLine (drop start bytes) len →
    ((marker behind : List ℕ) → IsMarker marker behind → take len (drop start bytes) ≡ marker → ⊥) →
    SplitsAt bytes other rest → start ≤ length other → start + len ≤ length other
none_before bytes other rest start len line other_line s from =
    elim (eq-or-lt_of_le from) [
      | inl e ↦ absurd (other_line s.marker rest s.is_marker
          (marker_line s.marker rest (drop start bytes) len
          (is_marker_there bytes other rest start s e) s.is_marker line))
      | inr less ↦ elim (cases_lt (length other) (start + len)) [
        | inl short ↦ absurd (none_inside bytes other rest start len line s less short)
        | inr far ↦ far
      ]
    ]

-- after a line that is no marker the next one begins
past_line : (bytes : List ℕ) (start len : ℕ) → IsPast bytes start → IsLine (drop start bytes) len →
    start < length bytes →
    ((marker behind : List ℕ) → IsMarker marker behind → take len (drop start bytes) ≡ marker → ⊥) →
    IsPast bytes (start + len)
past_line bytes start len past line left other_line = record {
  within = omega (arith, line.within, length-drop start bytes);
  lines = past_lines bytes start len line;
  none = λ other rest s. none_before bytes other rest start len line other_line s (past.none other rest s);
}

-- `%%` with or without an end
abbrev pub IsMarkerLine : List ℕ → Type 0
IsMarkerLine line =
    (line ≡ codes "%%" ++ 10 ∷ []) ⊎ ((line ≡ codes "%%" ++ 13 ∷ 10 ∷ []) ⊎ (line ≡ codes "%%"))

is_marker_line : (marker behind : List ℕ) → IsMarker marker behind → IsMarkerLine marker
is_marker_line marker behind (inl e) = inl e
is_marker_line marker behind (inr (inl e)) = inr (inl e)
is_marker_line marker behind (inr (inr e)) = inr (inr e.0)

-- one more line that is no marker is passed
pub line_passed : (bytes rest line : List ℕ) (start len : ℕ) → IsPast bytes start → start < length bytes →
    rest ≡ drop start bytes → IsLine rest len → line ≡ take len rest → ¬ IsMarkerLine line →
    IsPast bytes (start + length line)
line_passed bytes rest line start len past left back l front other_line =
    let there : IsLine (drop start bytes) len = subst (λ b. IsLine b len) back l in
    let front' : line ≡ take len (drop start bytes) = front ∙ ap (λ b. take len b) back in
    let n : length line ≡ len = ap length front ∙ length-take-le len rest l.within in
    subst (λ k. IsPast bytes (start + k)) (sym n)
    (past_line bytes start len past there left
    (λ marker behind m e. other_line (subst IsMarkerLine (sym (front' ∙ e))
    (is_marker_line marker behind m))))

-- a marker has a byte
marker_some : (marker behind : List ℕ) → IsMarker marker behind → 0 < length marker
marker_some marker behind m = (marker_len marker behind m).some

-- where all is passed, no line is a marker
pub unsplit_at_end : (bytes : List ℕ) (start : ℕ) → IsPast bytes start → length bytes ≤ start →
    IsUnsplit bytes bytes []
unsplit_at_end bytes start past all = record {
  none = λ other behind s.
      omega (
        arith,
        past.none other behind s,
        ap length s.spelled,
        length-append other (s.marker ++ behind),
        length-append s.marker behind,
        marker_some s.marker behind s.is_marker,
      );
  program_is = refl;
  input_is = refl;
}

-- a line `%%` without an end is the last one
last_marker : (bytes line behind : List ℕ) (len : ℕ) → IsLine bytes len → line ≡ take len bytes →
    behind ≡ drop len bytes → line ≡ codes "%%" → behind ≡ []
last_marker bytes line behind len l front back e =
    let two : len ≡ 2 = omega (arith, length-take-le len bytes l.within, ap length (sym front ∙ e)) in
    elim l.ended [
      | inl feed ↦ absurd (
          let b : get_or (take len bytes) (len - 1) 0 ≡ 10 =
          get_or-take len bytes (len - 1) 0 (omega (arith, l.some)) ∙ feed in
          let c : get_or (37 ∷ 37 ∷ []) (len - 1) 0 ≡ 10 =
          ap (λ t. get_or t (len - 1) 0) (sym (sym front ∙ e)) ∙ b in
          let d : ◌≡◌ {A = ℕ} 37 10 = subst (λ n. ◌≡◌ {A = ℕ} (get_or (37 ∷ 37 ∷ []) (n - 1) 0) 10) two c in
          omega arith)
      | inr all ↦ back ∙ drop_all len bytes (omega arith)
    ]

-- a line that is a marker is one before what stands after it
marker_here : (bytes line behind : List ℕ) (len : ℕ) → IsLine bytes len → line ≡ take len bytes →
    behind ≡ drop len bytes → IsMarkerLine line → IsMarker line behind
marker_here bytes line behind len l front back (inl e) = inl e
marker_here bytes line behind len l front back (inr (inl e)) = inr (inl e)
marker_here bytes line behind len l front back (inr (inr e)) =
    inr (inr (e, last_marker bytes line behind len l front back e))

-- the first marker splits the bytes
pub split_here : (bytes program rest line input : List ℕ) (start len : ℕ) → IsPast bytes start →
    start < length bytes → program ≡ take start bytes → rest ≡ drop start bytes → IsLine rest len →
    line ≡ take len rest → input ≡ drop len rest → IsMarkerLine line → IsFirstSplit bytes program input
split_here bytes program rest line input start len past left front back l line_is input_is marker = record {
  splits = record {
    marker = line;
    spelled = sym (take-append-drop start bytes) ∙
        cc (front, back, line_is, input_is, take-append-drop len rest);
    lines = subst EndsLine (sym front) (past.lines left);
    is_marker = marker_here rest line input len l line_is input_is marker;
  };
  first = λ other behind s.
      omega (arith, past.none other behind s, ap length front, length-take-le start bytes past.within);
}

-- what stands after a program
behind_same : (bytes program other input : List ℕ) (s : SplitsAt bytes program input) →
    length other ≡ length program → drop (length other) bytes ≡ s.marker ++ input
behind_same bytes program other input s e = rw (e, s.spelled) (drop-append_seam program (s.marker ++ input))

-- the same program has the same input
input_same : (bytes program other input behind : List ℕ) → SplitsAt bytes program input →
    SplitsAt bytes other behind → length other ≡ length program → input ≡ behind
input_same bytes program other input behind s t e =
    let here : drop (length other) bytes ≡ s.marker ++ input = behind_same bytes program other input s e in
    let there : drop (length other) bytes ≡ t.marker ++ behind =
    behind_same bytes other other behind t refl in
    let len : length s.marker ≡ length t.marker =
    line_same (drop (length other) bytes) (length s.marker) (length t.marker)
    (subst (λ b. IsLine b (length s.marker)) (sym here) (marker_len s.marker input s.is_marker))
    (subst (λ b. IsLine b (length t.marker)) (sym there) (marker_len t.marker behind t.is_marker)) in
    sym (drop-append_seam s.marker input) ∙ ap (λ b. drop (length s.marker) b) (sym here ∙ there)
    ∙ ap (λ n. drop n (t.marker ++ behind)) len ∙ drop-append_seam t.marker behind

-- the same bytes have the same program
program_same : (bytes program other input behind : List ℕ) → SplitsAt bytes program input →
    SplitsAt bytes other behind → length other ≡ length program → program ≡ other
program_same bytes program other input behind s t e =
    sym (take-append_seam program (s.marker ++ input)) ∙ ap (λ b. take (length program) b)
    (sym s.spelled ∙ t.spelled)
    ∙ ap (λ n. take n (other ++ (t.marker ++ behind))) (sym e) ∙ take-append_seam other (t.marker ++ behind)

-- bytes are split in one way
pub split_same : (bytes program other input behind : List ℕ) → IsSplit bytes program input →
    IsSplit bytes other behind → (program ≡ other) × (input ≡ behind)
split_same bytes program other input behind (inl a) (inl b) =
    let e : length other ≡ length program =
    omega (arith, a.first other behind b.splits, b.first program input a.splits) in (
      program_same bytes program other input behind a.splits b.splits e,
      input_same bytes program other input behind a.splits b.splits e,
    )
split_same bytes program other input behind (inl a) (inr b) = absurd (b.none program input a.splits)
split_same bytes program other input behind (inr a) (inl b) = absurd (a.none other behind b.splits)
split_same bytes program other input behind (inr a) (inr b) =
    (a.program_is ∙ sym b.program_is, a.input_is ∙ sym b.input_is)
