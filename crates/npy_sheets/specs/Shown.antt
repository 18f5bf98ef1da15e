-- Document 02, W2 and W12, the program `from_npy`: a file's sheet lines, header word, then coefficients; a refusal
-- prints the refusal line. The program reads 98,316 bytes: of a file with as many and a header of version 2.0 that has
-- more than 65,535 it cannot read enough, and refuses it by 5.
use Rattle.std.specs.Prelude.{Ok, Err, ℕ, ◌+◌, ◌*◌, ◌≤◌, ◌<◌, List, ◌++◌, map, Bool, true, false, ◌&&◌, ◌≡◌, refl, leb, ltb, length, take, Float}
use Rattle.std.proofs.Math.Path.{sym, ap, subst}
use Rattle.std.proofs.Common.{◌∙◌, arith, le-leb}
use Rattle.std.proofs.lemmas.Bool.{lt-leb}
use Rattle.std.specs.Float.Ieee.{to_bits}
use Rattle.std.specs.Float.{binary64}
use Rattle.model.specs.Results.{Answer}
use Rattle.model.specs.declared.Header.{Header}
use Rattle.model.specs.declared.Refusal.{Refusal}
use Rattle.model.specs.Header.{stored}
use Rattle.model.specs.Refusals.{refused_by}
use Rattle.model.specs.Word.{header_of}
use Rattle.model_texts.specs.Hex.{hex_line, hex_lines}
use Rattle.model_texts.specs.Printed.{refused_text}
use Rattle.shape_words.specs.Rules.{Good, Ruled}
use Rattle.shape_words.specs.Words.{unpack-pack}
use Rattle.npy_files.specs.Frame.{little, opening, starts_with, is_version}
use Rattle.npy_files.specs.Shapes.{head_of}
use Rattle.npy_files.specs.Reads.{Reading}
use Rattle.npy_files.specs.Once.{room-good}
use Rattle.npy_reading.specs.Heads.{shape-good}
use Rattle.npy_laws.specs.Front.{read_at_most}
use Rattle.sheet_text.specs.Put.{Put}

unfoldable pub sheet_text : ℕ → List Float → List ℕ
sheet_text w xs = hex_line w ++ hex_lines (map (to_bits binary64) xs)

-- xs: the buffer after reading
unfoldable pub shown_text : Answer → List Float → List ℕ
shown_text (Ok w) xs = sheet_text w (take (stored (header_of w)) xs)
shown_text (Err r) xs = refused_text r

pub record Shown (t : List ℕ) (values values' : List Float) (old new : List ℕ) (n : ℕ) : Type 0 where
  pub answer : Answer
  pub reading : Reading t values answer values'
  pub put : Put 0 (shown_text answer values') old new n

unfoldable pub is_long : List ℕ → Bool
is_long t = leb read_at_most (length t) && (is_version 2 t && ltb 65535 (little 4 t 8))

-- what is printed for a file, and what its reading leaves of the memory for the coefficients
pub data Telling (t : List ℕ) (values : List Float) : List Float → List ℕ → Type 0 where
  long : is_long t ≡ true → Telling t values values (refused_text (refused_by 5))
  whole : {a : Answer} {x : List Float} → is_long t ≡ false → Reading t values a x → Telling t values x (shown_text a x)

pub record ShownFile (t : List ℕ) (values values' : List Float) (old new : List ℕ) (n : ℕ) : Type 0 where
  pub text : List ℕ
  pub told : Telling t values values' text
  pub put : Put 0 text old new n

-- a header word that is answered keeps the rules
pub read-good : {t : List ℕ} {old new : List Float} {w : ℕ} → Reading t old (Ok w) new → Good (header_of w)
read-good {t} {old} (Reading.done v s f g) =
    let good = room-good v (length old) f in
    let k = shape-good v.shape good in
    subst Good (sym (unpack-pack (head_of v.shape) k.regular)) k

module _ {t : List ℕ} {old new : List Float} (w : ℕ) {a : Answer} (r : Reading t old a new) (e : a ≡ Ok w) where
  done-good : Good (header_of w)
  done-good = read-good (subst (λ (x : Answer). Reading t old x new) e r)

  pub done_ruled : {h : Header} → h ≡ header_of w → Ruled h
  done_ruled k = subst Ruled (sym k) done-good.regular.rules

  pub done-small : {h : Header} {c : ℕ} → h ≡ header_of w → c ≡ stored h → c ≤ 4096
  done-small k l = subst (λ (n : ℕ). n ≤ 4096) (sym (l ∙ ap stored k)) done-good.most

module _ {t : List ℕ} {values values' : List Float} {old new : List ℕ} {n : ℕ} where
  pub shown-done : (w : ℕ) {a : Answer} {c : ℕ} → Reading t values a values' → a ≡ Ok w
      → c ≡ stored (header_of w) → Put 0 (sheet_text w (take c values')) old new n → Shown t values values' old new n
  unfolding shown_text
  shown-done w {a} {c} r e k p =
      record {
        answer = Ok w;
        reading = subst (λ (x : Answer). Reading t values x values') e r;
        put = subst (λ (m : ℕ). Put 0 (sheet_text w (take m values')) old new n) k p;
      }

  pub shown-refused : (e : Refusal) {a : Answer} → Reading t values a values' → a ≡ Err e
      → Put 0 (refused_text e) old new n → Shown t values values' old new n
  unfolding shown_text
  shown-refused e {a} r k p =
      record {
        answer = Err e;
        reading = subst (λ (x : Answer). Reading t values x values') k r;
        put = p;
      }

  -- the two ways of the program
  pub file-whole : is_long t ≡ false → Shown t values values' old new n → ShownFile t values values' old new n
  file-whole e s = record { text = shown_text s.answer values'; told = Telling.whole e s.reading; put = s.put }

pub file-long : {t : List ℕ} {values : List Float} {old new : List ℕ} {n : ℕ} {r : Refusal} → is_long t ≡ true → r ≡ refused_by 5
    → Put 0 (refused_text r) old new n → ShownFile t values values old new n
file-long {t} {values} {old} {new} {n} e k p =
    record { text = refused_text (refused_by 5); told = Telling.long e; put = subst (λ (x : Refusal). Put 0 (refused_text x) old new n) k p }

-- the code's tests, one after the other
module _ (t : List ℕ) where
  pub long-short : length t < 98316 → false ≡ is_long t
  unfolding is_long
  long-short l = sym (rw (lt-leb read_at_most (length t) l))

  module _ (l : 98316 ≤ length t) {s : Bool} (e : s ≡ starts_with (opening 2) t) where
    pub long-other : s ≡ false → false ≡ is_long t
    unfolding is_long is_version
    long-other h = sym (rw (le-leb read_at_most (length t) l, sym e ∙ h))

    pub long-says : {x : ℕ} → s ≡ true → x ≡ little 4 t 8 → ltb 65535 x ≡ is_long t
    unfolding is_long is_version
    long-says {x} h k = ap (ltb 65535) k ∙ sym (rw (le-leb read_at_most (length t) l, sym e ∙ h))
