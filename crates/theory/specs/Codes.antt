-- The codes of actions. Code 0 is the inner action and code 1 the prioritised inner action. A visible action has the
-- code 4 * channel + 2 * p + u, with a channel from 1 to 60, p = 1 for a co-name, u = 1 for a prioritised action.
use Rattle.std.specs.Prelude.{ℕ, ◌+◌, ◌-◌, ◌*◌, ◌/◌, ◌%◌, ◌^◌, Bool, cond, not, ◌&&◌, ◌||◌, ◌==◌, nat_le, nat_lt}

abbrev pub lawful_code : ℕ → Bool
lawful_code a = nat_le a 1 || (nat_le 4 a && nat_le a 243)

abbrev pub visible : ℕ → Bool
visible a = nat_le 4 a

abbrev pub prioritised : ℕ → Bool
prioritised a = a % 2 == 1

abbrev pub co_name : ℕ → Bool
co_name a = visible a && a / 2 % 2 == 1

-- Two visible actions of one channel and one class meet, if one is a name and the other a co-name.
abbrev pub meets : ℕ → ℕ → Bool
meets a b = visible a && (visible b && (a / 4 == b / 4 && (a % 2 == b % 2 && not (a / 2 % 2 == b / 2 % 2))))

-- A word of 64 bits in which only the bits 1 to 60 are set; bit c belongs to channel c.
abbrev pub lawful_word : ℕ → Bool
lawful_word word = word % 2 == 0 && nat_lt word (2 ^ 61)

abbrev pub lawful_channel : ℕ → Bool
lawful_channel c = nat_le 1 c && nat_le c 60

abbrev pub has_channel : ℕ → ℕ → Bool
has_channel word c = word / 2 ^ c % 2 == 1

-- A restriction reads its pair of words by class: the first is for unprioritised actions.
abbrev pub barred : ℕ → ℕ → ℕ → Bool
barred first second a = visible a && has_channel (cond (prioritised a) second first) (a / 4)

-- Raising and lowering read theirs by polarity: the first is for names.
abbrev pub listed : ℕ → ℕ → ℕ → Bool
listed first second a = visible a && has_channel (cond (co_name a) second first) (a / 4)

abbrev pub raised : ℕ → ℕ → ℕ → ℕ
raised first second a = cond (listed first second a && not (prioritised a)) (a + 1) a

abbrev pub lowered : ℕ → ℕ → ℕ → ℕ
lowered first second a = cond (listed first second a && prioritised a) (a - 1) a

-- Actions of a class (0 or 1) on one channel move to another channel.
abbrev pub renamed : ℕ → ℕ → ℕ → ℕ → ℕ
renamed class from to a = cond (visible a && (a % 2 == class && a / 4 == from)) (4 * to + a % 4) a
