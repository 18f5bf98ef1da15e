-- Filling up columns: spaces behind a text of which only the two ends are known. Where the memory ended before the text
-- did, any number of spaces is right.
use Rattle.std.specs.Prelude.{ℕ, ◌+◌, ◌-◌, ◌≤◌, ◌<◌, min, List, [], ◌∷◌, ◌++◌, ◌≡◌, leb, length}
use Rattle.std.proofs.Common.{append_assoc, sym, ap, ◌∙◌, arith, add-one, length-append, leb-true, leb-false, lt-ltb, le-ltb}
use Rattle.std.proofs.lemmas.List.{take-append-le}
use Rattle.lists.specs.Bytes.{bytes}
use Rattle.lists.specs.Grow.{over}
use Rattle.lists.specs.Table.{table}
use Rattle.lists.specs.Test.{decide}
use Rattle.report_lines.specs.Puts.{Printed, Puts, puts_then}
use Rattle.model_figures.specs.Cells.{blanks, gap, cell}

-- behind a text that begins at `from`, in the column c, and ends at `next`: up to the next column, n places on
abbrev pub Fills : ℕ → ℕ → ℕ → ℕ → List ℕ → List ℕ → ℕ → Type 0
Fills c n from next mid new end =
    (t xs old : List ℕ) → from ≡ min (length t) (length old) → Printed (t ++ xs) old mid next
    → Printed (t ++ cell c n xs) old new end

-- past the end of the memory one text is as good as another
past : (s a b old new : List ℕ) (n : ℕ) → length old ≤ length s → Printed (s ++ a) old new n → Printed (s ++ b) old new n
past s a b old new n h p =
    record {
      behind = omega (arith, p.behind, length-append s a, length-append s b);
      is = p.is ∙ ap (λ (l : List ℕ). over l old) (take-append-le (length old) s a h ∙ sym (take-append-le (length old) s b h));
    }

pub fills-gap : (c n from next : ℕ) {mid new : List ℕ} {end : ℕ} → from ≤ next
    → Puts (gap c n (next - from)) next mid new end → Fills c n from next mid new end
unfolding cell
fills-gap c n from next {mid} {new} {end} l q t xs old e s =
    let r : Printed ((t ++ xs) ++ gap c n (next - from)) old new end = q (t ++ xs) old s in
    rw (← append_assoc t xs (gap c n (length xs)))
    (decide (leb (length old) (length (t ++ xs)))
    (λ b. past (t ++ xs) (gap c n (next - from)) (gap c n (length xs)) old new end (leb-true _ _ b) r)
    (λ b. let h : length (t ++ xs) < length old = leb-false _ _ b in
    let k : next - from ≡ length xs = omega (arith, s.behind, length-append t xs) in
    rw k at r))

-- spaces where it is short enough, else a new line
pub gap-short : (c n l : ℕ) → l < n → gap c n l ≡ blanks (n - l)
unfolding gap
gap-short c n l h = rw (lt-ltb l n h)

pub gap-wide : (c n l : ℕ) → n ≤ l → gap c n l ≡ bytes "\n" ++ blanks (c + n)
unfolding gap
gap-wide c n l h = rw (le-ltb l n h)

-- a text ends behind where it begins
pub fills-never : (c n from next : ℕ) (mid : List ℕ) → next < from → Fills c n from next mid mid next
fills-never c n from next mid h t xs old e s = absurd (omega (arith, s.behind, length-append t xs))

pub puts-cell : (c n : ℕ) {xs old mid new : List ℕ} {at next end : ℕ} → Puts xs at old mid next
    → Fills c n at next mid new end → Puts (cell c n xs) at old new end
puts-cell c n {xs} p f t old s = f t xs old s.behind (p t old s)

-- one space more
pub puts-blank : (k : ℕ) {old mid new : List ℕ} {at next end : ℕ} → Puts (blanks k) at old mid next
    → Puts (32 ∷ []) next mid new end → Puts (blanks (k + 1)) at old new end
unfolding table
puts-blank k p q = rw (add-one k) (puts_then p q)

-- the same text under another name
pub puts-is : {xs ys mid new : List ℕ} {at next : ℕ} → xs ≡ ys → Puts ys at mid new next → Puts xs at mid new next
puts-is e p = rw e p
