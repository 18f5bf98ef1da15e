-- Document 02, W8: the settings store as 32 lists of contents, a list a department, oldest first; each call as a
-- function of the lists and its arguments.
use Rattle.std.specs.Prelude.{ℕ, ◌+◌, ◌-◌, Bool, true, false, ◌&&◌, ◌||◌, List, [], ◌∷◌, ◌++◌, length, get_or, set, replicate, ltb, leb, eqb, Result, Ok, Err}
use Rattle.model_settings.specs.declared.Content.{Content}
use Rattle.model_settings.specs.declared.Settled.{Settled}
use Rattle.model_settings.specs.declared.Unsettled.{Unsettled}
use Rattle.model_settings.specs.declared.Unsettled.TheVariants.{NoDepartment, OutOfRange, Stale, NotKept, LastVersion, NoStore}

-- chance 0.0, horizon 1, recipe 0
abbrev pub fresh_content : Content
fresh_content = record { chance = 0; horizon = 1; recipe = 0 }

-- what stands for a version that was not made
abbrev pub blank : Content
blank = record { chance = 0; horizon = 0; recipe = 0 }

-- the bits of a float from 0 to 1: those of +0.0 up to 1.0, or those of -0.0
unfoldable pub good_chance : ℕ → Bool
good_chance x = leb x 4607182418800017408 || eqb x 9223372036854775808

unfoldable pub in_range : Content → Bool
in_range c = good_chance c.chance && (leb 1 c.horizon && (leb c.horizon 255 && leb c.recipe 65535))

-- the last version that has a number
abbrev pub last_version : ℕ
last_version = 4294967295

-- version u is kept where v is current: the last eight are
unfoldable pub kept : ℕ → ℕ → Bool
kept v u = leb u v && ltb (v - u) 8

-- what a call answers: a version and its content, or why it was refused
abbrev pub Answer : Type 0
Answer = Result Settled Unsettled

-- the number of a refusal in document 02
unfoldable pub number : Unsettled → ℕ
number NoDepartment = 3
number OutOfRange = 4
number Stale = 13
number NotKept = 14
number LastVersion = 15
number NoStore = 18

abbrev pub refuse : Unsettled → Answer
refuse q = Err q

-- version v, which holds c
abbrev pub settled : ℕ → Content → Settled
settled v c = record { version = v; content = c }

abbrev pub told : ℕ → Content → Answer
told v c = Ok (settled v c)

-- what follows where the test holds, else a refusal
unfoldable pub ask : Bool → Unsettled → Answer → Answer
ask true q next = next
ask false q next = refuse q

-- The calls of department d, whose current version is v and whose versions hold `at`, refusals in the order in which
-- they are tested.
unfoldable pub reading : ℕ → ℕ → (ℕ → Content) → Answer
reading d v at = ask (ltb d 32) NoDepartment (told v (at v))

unfoldable pub reading_version : ℕ → ℕ → ℕ → (ℕ → Content) → Answer
reading_version d u v at = ask (ltb d 32) NoDepartment (ask (kept v u) NotKept (told u (at u)))

unfoldable pub saving : ℕ → ℕ → Content → ℕ → Answer
saving d from c v =
    ask (ltb d 32) NoDepartment (ask (in_range c) OutOfRange (ask (eqb from v) Stale (ask (ltb v last_version) LastVersion (told (v + 1) c))))

unfoldable pub bringing : ℕ → ℕ → ℕ → ℕ → (ℕ → Content) → Answer
bringing d from u v at =
    ask (ltb d 32) NoDepartment (ask (eqb from v) Stale (ask (kept v u) NotKept (ask (ltb v last_version) LastVersion (told (v + 1) (at u)))))

-- The lists.
abbrev pub State : Type 0
State = List (List Content)

unfoldable pub fresh_state : State
fresh_state = replicate 32 (fresh_content ∷ [])

abbrev pub versions : State → ℕ → List Content
versions s d = get_or s d []

-- the number of the current version
abbrev pub current : State → ℕ → ℕ
current s d = length (versions s d) - 1

abbrev pub content_at : State → ℕ → ℕ → Content
content_at s d u = get_or (versions s d) u blank

pub data Call : Type 0 where
  fresh : Call
  read : ℕ → Call
  read_version : ℕ → ℕ → Call
  save : ℕ → ℕ → Content → Call
  bring_back : ℕ → ℕ → ℕ → Call

unfoldable pub answer : Call → State → Answer
answer fresh s = told 0 fresh_content
answer (read d) s = reading d (current s d) (content_at s d)
answer (read_version d u) s = reading_version d u (current s d) (content_at s d)
answer (save d from c) s = saving d from c (current s d)
answer (bring_back d from u) s = bringing d from u (current s d) (content_at s d)

-- an accepted save or bringing back makes one version more, of the content answered
unfoldable pub onward : ℕ → Answer → State → State
onward d (Ok a) s = set s d (versions s d ++ (a.content ∷ []))
onward d (Err q) s = s

unfoldable pub after : Call → State → State
after fresh s = fresh_state
after (read d) s = s
after (read_version d u) s = s
after (save d from c) s = onward d (answer (save d from c) s) s
after (bring_back d from u) s = onward d (answer (bring_back d from u) s) s
