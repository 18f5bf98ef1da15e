use native.Mathlib.Omega.{arith}
use mathlib.Core.Path.{◌≡◌, sym, ap, ◌∙◌}
use Prim.Native.Nat.{ℕ, ◌+◌, ◌-◌, ◌≤◌}
use mathlib.Core.List.{List, ◌++◌}
use lib.ListN.{length, take, drop, replicate}
use Rattle.std.proofs.Common.{append_assoc, drop-drop, length-append, length-drop, length-take-le}
use Rattle.std.proofs.lemmas.List.{get_or-replicate, length-replicate}
use Rattle.lists.specs.Table.{table, table-all, table_same, length-table}
use Rattle.sheet_text.specs.Put.{Put}
use Rattle.sheet_text.proofs.print.put_spaces.Goals as goal

constant : (n v : ℕ) → replicate n v ≡ table n (λ k. v)
constant n v =
    let l : length (replicate n v) ≡ n = length-replicate n v in
    sym (rw l at (table-all 0 (replicate n v))) ∙ table_same _ _ n (λ k h. get_or-replicate n k v 0 h)

-- a part of a list, written over
part-put : (at n : ℕ) (xs old : List ℕ) → length xs ≡ n → at + n ≤ length old → Put at xs old (take at old ++ (xs ++ drop n (drop at old))) (at + n)
part-put at n xs old e h =
    let l : length (take at old ++ xs) ≡ at + n = omega (arith, length-append (take at old) xs, length-take-le at old (omega arith)) in
    record {
      behind = omega arith;
      fits = h;
      is =
          sym (append_assoc (take at old) xs (drop n (drop at old)))
          ∙ ap (λ (y : List ℕ). (take at old ++ xs) ++ y) (drop-drop n at old ∙ ap (λ (k : ℕ). drop k old) (sym l));
    }

pub returns : goal.returns
returns c =
    let n = c.args.n in
    let at = c.args.at in
    let old = c.args.to.now in
    let k : at + n - at ≡ n = omega arith in
    let m : length (take (at + n - at) (drop at old)) ≡ n =
    rw k (length-take-le n (drop at old) (omega (arith, length-drop at old))) in
    let e : c.fill.new.self ≡ table n (λ k. 32) = c.fill.ensures.after (λ y h. h) ∙ (ap (λ (j : ℕ). replicate j 32) m ∙ constant n 32) in
    rw (e, k) (part-put at n (table n (λ k. 32)) old (length-table (λ k. 32) n) c.requires)
