-- Words of names, and what stands after them.
use Rattle.std.proofs.Common.{◌≡◌, ◌≢◌, ℕ, ◌==◌, Bool, true, false, ◌||◌, List, [], ◌∷◌}
use Rattle.std.proofs.Common.{if◌then◌else◌, ◌++◌, All, refl, sym, ◌∙◌, ap}
use Rattle.std.specs.List.{list_all}
use Rattle.std.specs.Char.{is_ascii_alphanumeric}
use Rattle.std.proofs.lemmas.Bool.{and_parts, ne_eqb}
use Rattle.std.proofs.lemmas.List.{append_cancel_right}
use Rattle.std.proofs.lemmas.List.Elements.{All-nil, All-cons, All-head, All-tail}
use Rattle.seuss_program.specs.declared.tree.Name.{Name}
use Rattle.report_text.specs.Names.{ends_name, IsName}

-- no byte of a word ends a name
abbrev pub IsWord : List ℕ → Type 0
IsWord word = All (λ (b : ℕ). ends_name b ≡ false) word

-- no bytes are a word
pub no_bytes : IsWord []
no_bytes = All-nil (λ (b : ℕ). ends_name b ≡ false)

-- a byte that passes a test isn't one that fails it
other_byte : (test : ℕ → Bool) (b c : ℕ) → test b ≡ true → test c ≡ false → (b == c) ≡ false
other_byte test b c is not = ne_eqb b c (λ e. apart (sym is ∙ (ap test e ∙ not)))
  where
    apart : true ≡ false → ⊥
    apart e = cc

-- letters, digits and `_`
abbrev spells : ℕ → Bool
spells b = is_ascii_alphanumeric b || b == 95

-- letters, digits and `_` end no name
ends_none : (b : ℕ) → spells b ≡ true → ends_name b ≡ false
ends_none b is =
    rw (
      other_byte spells b 10 is refl,
      other_byte spells b 32 is refl,
      other_byte spells b 46 is refl,
      other_byte spells b 35 is refl,
    ) refl

-- letters, digits and `_` are a word
spelled_word : (text : List ℕ) → list_all spells text ≡ true → IsWord text
spelled_word [] is = no_bytes
spelled_word (b ∷ bs) is =
    let parts = and_parts (spells b) (list_all spells bs) is in
    All-cons (λ (c : ℕ). ends_name c ≡ false) b bs (ends_none b parts.0) (spelled_word bs parts.1)

-- what is spelled with letters, digits and `_` is a name, where it has a byte
pub spelled_name : (name : Name) → name.text ≢ [] → list_all spells name.text ≡ true → IsName name
spelled_name name some is = record { some = some; whole = spelled_word name.text is }

-- what stands after the word at the front
abbrev pub after_word : List ℕ → List ℕ
after_word [] = []
after_word (b ∷ bs) = if ends_name b then b ∷ bs else after_word bs

-- a word ends at the first byte that ends a name
pub word_ends : (word : List ℕ) (stop : ℕ) (rest : List ℕ) → IsWord word → ends_name stop ≡ true →
    after_word (word ++ stop ∷ rest) ≡ stop ∷ rest
word_ends [] stop rest word ends = rw ends refl
word_ends (b ∷ bs) stop rest word ends =
    rw (All-head (λ (c : ℕ). ends_name c ≡ false) b bs word)
    (word_ends bs stop rest (All-tail (λ (c : ℕ). ends_name c ≡ false) b bs word) ends)

-- equal texts begin with the same word, and go on in the same way
pub same_words : (u v : List ℕ) (c d : ℕ) (r s : List ℕ) → IsWord u → IsWord v →
    ends_name c ≡ true → ends_name d ≡ true → u ++ c ∷ r ≡ v ++ d ∷ s → (u ≡ v) × (c ∷ r ≡ d ∷ s)
same_words u v c d r s first second stop end e =
    let rest : c ∷ r ≡ d ∷ s =
    sym (word_ends u c r first stop) ∙ (ap after_word e ∙ word_ends v d s second end) in
    (append_cancel_right u v (c ∷ r) (e ∙ ap (λ t. v ++ t) (sym rest)), rest)
