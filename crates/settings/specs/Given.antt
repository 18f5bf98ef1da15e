-- What can be said of a value that was read: it is that of some text. Which one, only the system knows.
use Rattle.std.specs.Prelude.{Option, Some, Result, Ok, Err, ℕ, Bool, cond, List, [], ◌≡◌, ⊤}
use Rattle.std.specs.Result.{is_ok}
use Rattle.std.specs.Option.{option_and_then}
use Rattle.std.proofs.Math.Bool.{true, false}
use Rattle.std.proofs.Common.{true≢false, ◌∙◌}
use Rattle.std.proofs.Math.Path.{sym, refl}
use Rattle.settings_text.specs.Text.{is_store, store_words, taken_words}
use Rattle.settings_command.specs.Argument.{call_of, whole_of, chance_of}
use Rattle.settings_command.specs.declared.asked.Asked.{Asked}
use Rattle.settings_command.specs.declared.asked.Asked.TheVariants as asked
use Rattle.settings_command.specs.declared.asked.Call.{Call}
use Rattle.settings_command.specs.declared.asked.Call.TheVariants.{Fresh, Departments, Versions, Save, Back}
use Rattle.settings_command.specs.declared.sentence.Unread.{Unread}
use Rattle.settings_command.specs.declared.sentence.Unread.TheVariants.{NotStore}

pub record Given (f : List ℕ → Option ℕ) (r : Option ℕ) : Type 0 where
  pub text : List ℕ
  pub is : r ≡ f text

pub record CallGiven (r : Option Call) : Type 0 where
  pub text : List ℕ
  pub count : ℕ
  pub is : r ≡ call_of text count

-- what the arguments ask for, where each one that the call has says a number: a fresh store and a list have none
unfoldable pub heard_of : Call → Option ℕ → Option ℕ → Option ℕ → Option ℕ → Option ℕ → Option ℕ → Option Asked
heard_of Fresh department from kept chance horizon recipe = Some asked.Fresh
heard_of Departments department from kept chance horizon recipe = Some asked.Departments
heard_of Versions department from kept chance horizon recipe =
    option_and_then (λ d. Some (asked.Versions d)) department
heard_of Save department from kept chance horizon recipe =
    option_and_then (λ d. option_and_then (λ f. option_and_then (λ c. option_and_then (λ h. option_and_then
    (λ p. Some (asked.Save d f (record { chance = c; horizon = h; recipe = p }))) recipe) horizon) chance) from) department
heard_of Back department from kept chance horizon recipe =
    option_and_then (λ d. option_and_then (λ f. option_and_then (λ k. Some (asked.Back d f k)) kept) from) department

pub record HeardGiven (call : Call) (r : Option Asked) : Type 0 where
  pub department : List ℕ
  pub from : List ℕ
  pub kept : List ℕ
  pub chance : List ℕ
  pub horizon : List ℕ
  pub recipe : List ℕ
  pub is :
      r ≡ heard_of call (whole_of department) (whole_of from) (whole_of kept) (chance_of chance) (whole_of horizon)
      (whole_of recipe)

-- words that are read are those of a store's text; others stay
pub record Loaded (r : Result ⊤ Unread) (old new : List ℕ) : Type 0 where
  pub text : List ℕ
  pub good : is_ok r ≡ true → is_store text ≡ true
  pub is : new ≡ cond (is_ok r) (store_words text old) old

-- ---- how these come about
pub heard-given :
    (call : Call) {d f k c h p : Option ℕ} → Given whole_of d → Given whole_of f → Given whole_of k → Given chance_of c
    → Given whole_of h → Given whole_of p → HeardGiven call (heard_of call d f k c h p)
heard-given call d f k c h p =
    record {
      department = d.text;
      from = f.text;
      kept = k.text;
      chance = c.text;
      horizon = h.text;
      recipe = p.text;
      is = rw (← d.is, ← f.is, ← k.is, ← c.is, ← h.is, ← p.is);
    }

-- an argument that was not looked at
pub not_read : (f : List ℕ → Option ℕ) → Given f (f [])
not_read f = record { text = []; is = refl }

pub not_loaded : (q : Unread) (w : List ℕ) → Loaded (Err q) w w
not_loaded q w = record { text = []; good = λ g. absurd (true≢false (sym g)); is = refl }

module _ (t old : List ℕ) {new : List ℕ} {b : Bool} (e : b ≡ is_store t) (m : new ≡ taken_words t old) where
  pub store_loaded : b ≡ true → Loaded (Ok tt) old new
  unfolding taken_words
  store_loaded h = let s : is_store t ≡ true = sym e ∙ h in record { text = t; good = λ g. s; is = m ∙ rw s }

  pub no_store : b ≡ false → Loaded (Err NotStore) old new
  unfolding taken_words
  no_store h = let s : is_store t ≡ false = sym e ∙ h in record { text = t; good = λ g. absurd (true≢false (sym g)); is = m ∙ rw s }
