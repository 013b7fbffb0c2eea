-- Journals read backwards: the newest entry first. Every definition over a whole journal is made of these words.
use Rattle.std.specs.Prelude.{zero, suc, ℕ, ◌+◌, Bool, false, ◌||◌, Option, None, Some, List, [], ◌∷◌, cond, reverse}
use Rattle.std.specs.List.{cons_option}
use Rattle.amqp_laws.specs.declared.entry.Entry.{Entry}

-- the journal, newest entry first
abbrev pub past : List Entry → List Entry
past journal = reverse journal

-- n and k more
abbrev pub more : ℕ → ℕ → ℕ
more zero n = n
more (suc k) n = more k n + 1

-- a number of each entry, added up
abbrev pub total : (Entry → ℕ) → List Entry → ℕ
total number [] = 0
total number (e ∷ before) = more (number e) (total number before)

-- a number of each entry since the last one that passes the test, or since the start where none does, added up
abbrev pub total_since : (Entry → Bool) → (Entry → ℕ) → List Entry → ℕ
total_since test number [] = 0
total_since test number (e ∷ before) = cond (test e) 0 (more (number e) (total_since test number before))

-- some entry passes the test
abbrev pub some_entry : (Entry → Bool) → List Entry → Bool
some_entry test [] = false
some_entry test (e ∷ before) = test e || some_entry test before

-- what was said just now, with the entries before it, or else what was said earlier
abbrev pub said_or : {A : Type 0} → Option A → List Entry → Option (A × List Entry) → Option (A × List Entry)
said_or None before earlier = earlier
said_or (Some a) before earlier = Some (a, before)

-- what the last entry that says something says, with the entries before it
abbrev pub last_said : {A : Type 0} → (Entry → Option A) → List Entry → Option (A × List Entry)
last_said says [] = None
last_said says (e ∷ before) = said_or (says e) before (last_said says before)

-- what was said last, or this where nothing was
abbrev pub last_or : {A : Type 0} → A → Option (A × List Entry) → A
last_or first None = first
last_or first (Some said) = said.0

-- what was said last
abbrev pub last_of : {A : Type 0} → Option (A × List Entry) → Option A
last_of None = None
last_of (Some said) = Some said.0

-- what each entry says, together with the entries before it, the newest first
abbrev pub said_back : {A : Type 0} → (Entry → List Entry → Option A) → List Entry → List A
said_back says [] = []
said_back says (e ∷ before) = cons_option (says e before) (said_back says before)
