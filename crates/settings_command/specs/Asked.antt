-- What the program `settings` does to the words of a store and prints of it: definitions, and no laws.
use Rattle.std.specs.Prelude.{ℕ, Ok, Err, List, ◌++◌, ◌≡◌, ltb, eqb}
use Rattle.std.specs.Result.{is_ok}
use Rattle.lists.specs.Bytes.{bytes}
use Rattle.model_texts.specs.Report.{when}
use Rattle.model_settings.specs.Store.{Answer, number}
use Rattle.model_settings.specs.Words.{fresh_answer, fresh_words, read_words, save_words, bring_words, words_saved, words_brought}
use Rattle.report_lines.specs.Puts.{Printed}
use Rattle.settings_text.specs.Text.{department_text, departments_text, versions_text}
use Rattle.settings_command.specs.declared.asked.Asked.{Asked}
use Rattle.settings_command.specs.declared.asked.Asked.TheVariants.{Fresh, Departments, Versions, Save, Back, Current}
use Rattle.settings_command.specs.declared.asked.Performed.{Performed}
use Rattle.settings_command.specs.Sentence.{refusal_text}

-- its department: of a fresh store and of a list 0, which every store has
unfoldable pub department_of : Asked → ℕ
department_of Fresh = 0
department_of Departments = 0
department_of (Versions d) = d
department_of (Save d from c) = d
department_of (Back d from u) = d
department_of (Current d) = d

-- the call's answer: of a list, and where a current version is asked for, that of department 0
unfoldable pub settled_of : Asked → List ℕ → Answer
settled_of Fresh w = fresh_answer w
settled_of Departments w = read_words w 0
settled_of (Versions d) w = read_words w d
settled_of (Save d from c) w = save_words w d from c
settled_of (Back d from u) w = bring_words w d from u
settled_of (Current d) w = read_words w 0

unfoldable pub words_after : Asked → List ℕ → List ℕ
words_after Fresh w = fresh_words w
words_after Departments w = w
words_after (Versions d) w = w
words_after (Save d from c) w = words_saved w d from c
words_after (Back d from u) w = words_brought w d from u
words_after (Current d) w = w

-- the current version of a department, where there is such a one
unfoldable pub current_text : ℕ → List ℕ → List ℕ
current_text d w = when (ltb d 32) (department_text w d)

-- its kept versions
unfoldable pub kept_text : ℕ → List ℕ → List ℕ
kept_text d w = when (ltb d 32) (versions_text w d)

-- of an accepted call: that a store is fresh, every department, the kept versions of one, or its current version
unfoldable pub shown_text : Asked → List ℕ → List ℕ
shown_text Fresh w = bytes "a fresh store: every department at version 0, chance 0, horizon 1, recipe 0.\n"
shown_text Departments w = departments_text w
shown_text (Versions d) w = kept_text d w
shown_text (Save d from c) w = current_text d w
shown_text (Back d from u) w = current_text d w
shown_text (Current d) w = current_text d w

-- a refusal is told, and where the version was stale, what is there now
unfoldable pub reply_text : Asked → Answer → List ℕ → List ℕ
reply_text a (Ok s) w = shown_text a w
reply_text a (Err q) w = refusal_text (number q) ++ when (eqb (number q) 13) (current_text (department_of a) w)

-- a call performed: whether it was accepted, the words after it, and what is printed of it over what stood there
unfoldable pub perform_text : Asked → List ℕ → List ℕ
perform_text a w = reply_text a (settled_of a w) (words_after a w)

abbrev pub PerformPromise : Asked → List ℕ → List ℕ → Performed → List ℕ → List ℕ → Type 0
PerformPromise a words to r words' to' =
    (r.keep ≡ is_ok (settled_of a words))
    × ((words' ≡ words_after a words) × Printed (perform_text a words) to to' r.length)
