-- Calls one after the other (document 02, W8: 'any sequence of calls'): what they answer and leave, of the lists and of
-- the words.
use Rattle.std.specs.Prelude.{ℕ, List, [], ◌∷◌}
use Rattle.model_settings.specs.Store.{State, Answer, Call, answer, after}
use Rattle.model_settings.specs.Store.Call.{fresh, read, read_version, save, bring_back}
use Rattle.model_settings.specs.Words.{fresh_words, fresh_answer, read_words, read_version_words, save_words}
use Rattle.model_settings.specs.Words.{words_saved}
use Rattle.model_settings.specs.Words.{bring_words, words_brought}

-- Each call on words: what the code promises.
unfoldable pub answer_on : Call → List ℕ → Answer
answer_on fresh w = fresh_answer w
answer_on (read d) w = read_words w d
answer_on (read_version d u) w = read_version_words w d u
answer_on (save d from c) w = save_words w d from c
answer_on (bring_back d from u) w = bring_words w d from u

unfoldable pub words_after : Call → List ℕ → List ℕ
words_after fresh w = fresh_words w
words_after (read d) w = w
words_after (read_version d u) w = w
words_after (save d from c) w = words_saved w d from c
words_after (bring_back d from u) w = words_brought w d from u

-- Calls one after the other.
unfoldable pub answers_on : List Call → List ℕ → List Answer
answers_on [] w = []
answers_on (c ∷ cs) w = answer_on c w ∷ answers_on cs (words_after c w)

unfoldable pub words_after_all : List Call → List ℕ → List ℕ
words_after_all [] w = w
words_after_all (c ∷ cs) w = words_after_all cs (words_after c w)

unfoldable pub answers : List Call → State → List Answer
answers [] s = []
answers (c ∷ cs) s = answer c s ∷ answers cs (after c s)

unfoldable pub after_all : List Call → State → State
after_all [] s = s
after_all (c ∷ cs) s = after_all cs (after c s)
