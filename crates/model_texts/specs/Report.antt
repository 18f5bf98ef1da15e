-- REFERENCE 9.1. The report of a sheet: every limit before any figure. A line for each place; a line for each input
-- that fills its limit, each limit that falls and each full length that passes its limit; what decided each limit of
-- the answer; and one line that says whether the answer is whole: from the headers that the places announce and the
-- step words alone.
use Rattle.std.specs.Prelude.{ℕ, zero, suc, ◌+◌, ◌-◌, Bool, ◌&&◌, ◌||◌, cond, List, [], ◌++◌, map, ltb, eqb, length, get_or}
use Prim.Native.String.{String}
use Rattle.lists.specs.Bytes.{bytes}
use Rattle.model.specs.declared.Header.{Header}
use Rattle.model.specs.Header.{limit, len}
use Rattle.model_recipes.specs.Kinds.{kinds}
use Rattle.model_recipes.specs.Steps.{step_of}
use Rattle.model_recipes.specs.Recipe.{head_at}
use Rattle.model_texts.specs.Printed.{decimal}
use Rattle.model_texts.specs.Trace.{uses_in, step_word, has, limit_at, is_cut, cut_operand, follow, decider, lowerer, furthest}
use Rattle.model_texts.specs.Full.{many, endless, full_at, fulls}
use Rattle.model_texts.specs.Whole.{passes, first_out, is_whole}

-- a phrase and a number; a text only where a test passes
abbrev pub tell : String → ℕ → List ℕ
tell s n = bytes s ++ decimal n

abbrev pub when : Bool → List ℕ → List ℕ
when b t = cond b t []

-- f 0, f 1, ..: n of them, one after the other
unfoldable pub joined : (ℕ → List ℕ) → ℕ → List ℕ
joined f zero = []
joined f (suc n) = joined f n ++ f n

-- ---- a line for each place: its number, what it is, its number of variables, and of each the limit and the stored
-- length

unfoldable pub pair_text : Header → ℕ → List ℕ
pair_text h v = when (ltb v h.vars) (tell " " (limit h v) ++ tell "/" (len h v))

unfoldable pub shape_text : Header → List ℕ
shape_text h = tell "; vars " h.vars ++ (when (ltb 0 h.vars) (bytes ":") ++ (joined (pair_text h) 4 ++ bytes "\n"))

-- the same in every edition
unfoldable pub kind_names : List String
kind_names = map (λ k. k.name) (kinds 0)

unfoldable pub kind_text : ℕ → List ℕ
kind_text k = bytes (get_or kind_names k "")

-- the fields that a step's kind uses; w the step word
unfoldable pub fields_text : ℕ → List ℕ
fields_text w =
    let s = step_of w in
    let u = uses_in w in
    when u.a (tell " " s.a) ++ (when u.b (tell " " s.b) ++ (when u.variable (tell " v" s.variable) ++ when u.n (tell " n" s.n)))

unfoldable pub step_text : ℕ → List ℕ
step_text w = kind_text (step_of w).kind ++ fields_text w

unfoldable pub what_text : List ℕ → ℕ → ℕ → List ℕ
what_text ss inputs p = cond (ltb p inputs) (bytes "input") (step_text (step_word ss inputs p))

-- a place, and whether it is an input or a step
unfoldable pub place_kind_text : ℕ → ℕ → List ℕ
place_kind_text inputs p = tell "place " p ++ cond (ltb p inputs) (bytes " (input)") (bytes " (step)")

-- the variable v of the place p
abbrev pub variable_text : ℕ → ℕ → List ℕ
variable_text p v = tell "place " p ++ tell " variable " v

-- the limit falls from l, that of the operand o, to k, that of the operand q
unfoldable pub falls_text : ℕ → ℕ → ℕ → ℕ → List ℕ
falls_text l o k q = tell ": limit falls from " l ++ (tell " (place " o ++ (tell ") to " k ++ (tell " (place " q ++ bytes ")\n")))

-- an input that fills its limit l: nobody here can know whether it was longer once
unfoldable pub fills_text : ℕ → List ℕ
fills_text l = tell ": fills its limit of " l ++ bytes " and may have been cut before\n"

-- f a full length
unfoldable pub need_text : ℕ → List ℕ
need_text f = cond (endless f) (bytes ": may go on without end") (cond (eqb f many) (bytes ": needs more than 4000000000") (tell ": needs " f))

-- a limit l that shifts have lowered from m, the nearest of them the step s, which lowers it by n
unfoldable pub lowered_text : ℕ → ℕ → ℕ → ℕ → List ℕ
lowered_text l m s n =
    when (ltb l m) (tell " (" m ++ (tell ", less " (m - l) ++ (tell " by place " s ++ (when (ltb n (m - l)) (bytes " and before") ++ bytes ")"))))

unfoldable pub fills_line : List Header → ℕ → ℕ → List ℕ
fills_line known p v =
    when (has known v p && eqb (len (head_at known p) v) (limit_at known v p)) (variable_text p v ++ fills_text (limit_at known v p))

-- a new line where one would be too long
abbrev pub break_text : Bool → List ℕ
break_text b = cond b (bytes ",\n  ") (bytes ", ")

-- the full length f of the variable v of the place p
unfoldable pub needs_front : ℕ → ℕ → ℕ → Bool → List ℕ
needs_front p v f lowered = variable_text p v ++ (need_text f ++ break_text ((endless f || eqb f many) || lowered))

module _ (known : List Header) (ss : List ℕ) (inputs : ℕ) where
  unfoldable pub place_text : ℕ → List ℕ
  place_text p = tell "place " p ++ (bytes ": " ++ (what_text ss inputs p ++ shape_text (head_at known p)))

  -- ---- what decides the limit of the place p in the variable v

  abbrev pub source : ℕ → ℕ → ℕ
  source p v = limit_at known v (decider known v ss inputs p)

  -- shifts lowered it
  abbrev pub is_lowered : ℕ → ℕ → Bool
  is_lowered p v = ltb (limit_at known v p) (source p v)

  unfoldable pub limit_text : ℕ → ℕ → List ℕ
  limit_text p v =
      let s = lowerer known v ss inputs p in
      decimal (limit_at known v p) ++ lowered_text (limit_at known v p) (source p v) s (step_of (step_word ss inputs s)).n

  unfoldable pub decider_text : ℕ → ℕ → List ℕ
  decider_text p v = bytes "as " ++ place_kind_text inputs (decider known v ss inputs p)

  unfoldable pub limit_has : ℕ → ℕ → List ℕ
  limit_has p v = limit_text p v ++ (bytes ", " ++ (decider_text p v ++ bytes " has\n"))

  -- ---- a line for each limit that is below an operand's, and for each full length that passes its limit

  unfoldable pub falls_line : ℕ → ℕ → List ℕ
  falls_line p v =
      let w = step_word ss inputs p in
      let o = cut_operand known v w p in
      when (is_cut known v w p) (variable_text p v ++ falls_text (limit_at known v o) o (limit_at known v p) (follow known v ss inputs p))

  -- fs the full lengths of all places
  module _ (fs : List ℕ) where
    unfoldable pub needs_line : ℕ → ℕ → List ℕ
    needs_line p v =
        when (passes known fs p v)
        (needs_front p v (full_at fs p v) (is_lowered p v) ++ (bytes "its limit is " ++ limit_has p v))

    unfoldable pub cut_text : ℕ → ℕ → List ℕ
    cut_text p v = cond (ltb p inputs) (fills_line known p v) (falls_line p v ++ needs_line p v)

    unfoldable pub cuts_text : ℕ → List ℕ
    cuts_text p = joined (cut_text p) 4

  -- ---- the answer, at the place p: what decides each limit, and which place went further

  unfoldable pub further_text : ℕ → ℕ → List ℕ
  further_text p v =
      let f = furthest known v ss inputs p in
      when (ltb (source p v) (limit_at known v f)) (tell ";\n  place " f ++ tell " went to " (limit_at known v f))

  unfoldable pub end_front : ℕ → ℕ → List ℕ
  end_front p v = tell "variable " v ++ (bytes " of the answer ends at " ++ limit_text p v)

  unfoldable pub end_line : ℕ → ℕ → List ℕ
  end_line p v =
      end_front p v ++ (break_text (is_lowered p v) ++ (decider_text p v ++ (bytes " does" ++ (further_text p v ++ bytes "\n"))))

  unfoldable pub end_text : ℕ → ℕ → List ℕ
  end_text p v = when (has known v p) (end_line p v)

  -- whether the answer, at the place p, is whole, and else the first place that leaves terms out
  unfoldable pub verdict_text : List ℕ → ℕ → List ℕ
  verdict_text fs p =
      cond (is_whole known ss inputs fs p) (bytes "*** WHOLE: with each input as it is stored, no limit left anything out. ***\n")
      (tell "*** CUT: what lies past the limits of place " (first_out known ss inputs fs p) ++ bytes " is left out. ***\n")

  -- all that is said of limits; n places, of which the last is the answer, and their full lengths
  unfoldable pub limits_with : List ℕ → ℕ → List ℕ
  limits_with fs n =
      bytes "Each place: what it is, its number of variables, and of each variable the\n"
      ++ (bytes "limit/most it stores. Operands are places, v is a variable, n a number.\n"
      ++ (joined place_text n ++ (joined (cuts_text fs) n ++ (joined (end_text (n - 1)) 4 ++ verdict_text fs (n - 1)))))

  unfoldable pub limits_text : ℕ → List ℕ
  limits_text n = limits_with (fulls known ss inputs n) n
