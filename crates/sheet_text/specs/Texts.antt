-- How long printed lines are, and the loop that prints floats.
use Rattle.std.specs.Prelude.{ℕ, ◌+◌, ◌*◌, ◌≤◌, ◌<◌, List, [], ◌∷◌, ◌++◌, map, ◌≡◌, refl, Float, length, get_or, take}
use Rattle.std.proofs.Common.{append_assoc, append-nil, sym, ap, ◌∙◌, arith, add-one, length-append, length-take-le, take-suc, take_all}
use Rattle.std.proofs.lemmas.List.{map-append, length-map}
use Rattle.std.specs.Float.{nan, binary64}
use Rattle.std.specs.Float.Ieee.{to_bits}
use Rattle.lists.specs.Table.{length-table}
use Rattle.model_texts.specs.Hex.{hex_line, hex_lines}
use Rattle.sheet_text.specs.Put.{Put, put-none, put_then}

pub length-line : (w : ℕ) → length (hex_line w) ≡ 17
unfolding hex_line
length-line w = simp (length-append, length-table)

pub length-lines : (ws : List ℕ) → length (hex_lines ws) ≡ 17 * length ws
unfolding hex_lines
length-lines [] = refl
length-lines (w ∷ ws) = omega (arith, length-append (hex_line w) (hex_lines ws), length-line w, length-lines ws)

lines_snoc : (ws : List ℕ) (w : ℕ) → hex_lines (ws ++ (w ∷ [])) ≡ hex_lines ws ++ hex_line w
unfolding hex_lines
lines_snoc [] w = append-nil (hex_line w)
lines_snoc (v ∷ ws) w = ap (λ (l : List ℕ). hex_line v ++ l) (lines_snoc ws w) ∙ sym (append_assoc (hex_line v) (hex_lines ws) (hex_line w))

abbrev pub float_lines : List Float → List ℕ
float_lines xs = hex_lines (map (to_bits binary64) xs)

pub length-floats : (xs : List Float) → length (float_lines xs) ≡ 17 * length xs
length-floats xs = length-lines (map (to_bits binary64) xs) ∙ ap (λ (n : ℕ). 17 * n) (length-map xs (to_bits binary64))

floats-more : (xs : List Float) (k : ℕ) → k < length xs → float_lines (take (k + 1) xs) ≡ float_lines (take k xs) ++ hex_line (to_bits
    binary64 (get_or xs k nan))
floats-more xs k l =
    rw (add-one k, take-suc xs k nan l)
    (ap hex_lines (map-append (to_bits binary64) (take k xs) (get_or xs k nan ∷ []))
    ∙ lines_snoc (map (to_bits binary64) (take k xs)) (to_bits binary64 (get_or xs k nan)))

-- after k floats
pub record PutFloats (xs : List Float) (at : ℕ) (old new : List ℕ) (next k : ℕ) : Type 0 where
  pub most : k ≤ length xs
  pub put : Put at (float_lines (take k xs)) old new next

pub floats-none : (xs : List Float) (at : ℕ) (old : List ℕ) → at ≤ length old → PutFloats xs at old old at 0
unfolding hex_lines
floats-none xs at old h = record { most = omega arith; put = put-none at old h }

module _ {xs : List Float} {at : ℕ} {old new : List ℕ} {next k : ℕ} (p : PutFloats xs at old new next k) where
  pub floats-next : next ≡ at + 17 * k
  floats-next = omega (arith, p.put.behind, length-floats (take k xs), length-take-le k xs p.most)

  pub floats-put : {w end : ℕ} {new' : List ℕ} → k < length xs → w ≡ to_bits binary64 (get_or xs k nan)
      → Put next (hex_line w) new new' end → PutFloats xs at old new' end (k + 1)
  floats-put {w} l e q = record { most = omega arith; put = rw (floats-more xs k l, ← e) (put_then p.put q) }

  pub floats_end : length xs ≤ k → Put at (float_lines xs) old new next
  floats_end l = rw (take_all k xs l) at p.put
