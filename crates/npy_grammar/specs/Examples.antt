-- Texts that are taken and texts that are not, by computing.
use Rattle.std.specs.Prelude.{ℕ, List, [], ◌∷◌, ◌++◌, map, Bool, true, false, ◌≡◌, refl, length}
use Rattle.npy_grammar.specs.Text.{is_blank, is_lead, is_space, is_digit, key_word, order_word}
use Rattle.npy_grammar.specs.Reading.{strip, eat, eats, past_number, digits_at, number_at, more_numbers, inside_tuple}
use Rattle.npy_grammar.specs.Reading.{is_quote, past_width, width_at, past_order, order_at, past_key, read_descr}
use Rattle.npy_grammar.specs.Reading.{read_order, read_shape, read_key, read_item, past_close, is_last, taken, items}

abbrev takes : List ℕ → Bool
takes t = taken (length t) t

-- b"{'descr': '<f8', 'fortran_order': False, 'shape': (3, 4), }     \n"
pub right_0 : takes (123 ∷ 39 ∷ 100 ∷ 101 ∷ 115 ∷ 99 ∷ 114 ∷ 39 ∷ 58 ∷ 32 ∷ 39 ∷ 60 ∷ 102 ∷ 56 ∷ 39 ∷ 44 ∷ 32 ∷ 39 ∷ 102
    ∷ 111 ∷ 114 ∷ 116 ∷ 114 ∷ 97 ∷ 110 ∷ 95 ∷ 111 ∷ 114 ∷ 100 ∷ 101 ∷ 114 ∷ 39 ∷ 58 ∷ 32 ∷ 70 ∷ 97 ∷ 108 ∷ 115 ∷ 101
    ∷ 44 ∷ 32 ∷ 39 ∷ 115 ∷ 104 ∷ 97 ∷ 112 ∷ 101 ∷ 39 ∷ 58 ∷ 32 ∷ 40 ∷ 51 ∷ 44 ∷ 32 ∷ 52 ∷ 41 ∷ 44 ∷ 32 ∷ 125 ∷ 32 ∷ 32
    ∷ 32 ∷ 32 ∷ 32 ∷ 10 ∷ []) ≡ true
unfolding is_blank is_lead is_space is_digit key_word order_word strip eat eats past_number digits_at number_at more_numbers
    inside_tuple is_quote past_width width_at past_order order_at past_key read_descr read_order read_shape read_key
    read_item past_close is_last taken
right_0 = refl

-- b'\t {"shape":(),\'fortran_order\' :\tTrue ,\n"descr":\'<f4\'}\n'
pub right_1 : takes (9 ∷ 32 ∷ 123 ∷ 34 ∷ 115 ∷ 104 ∷ 97 ∷ 112 ∷ 101 ∷ 34 ∷ 58 ∷ 40 ∷ 41 ∷ 44 ∷ 39 ∷ 102 ∷ 111 ∷ 114
    ∷ 116 ∷ 114 ∷ 97 ∷ 110 ∷ 95 ∷ 111 ∷ 114 ∷ 100 ∷ 101 ∷ 114 ∷ 39 ∷ 32 ∷ 58 ∷ 9 ∷ 84 ∷ 114 ∷ 117 ∷ 101 ∷ 32 ∷ 44 ∷ 10
    ∷ 34 ∷ 100 ∷ 101 ∷ 115 ∷ 99 ∷ 114 ∷ 34 ∷ 58 ∷ 39 ∷ 60 ∷ 102 ∷ 52 ∷ 39 ∷ 125 ∷ 10 ∷ []) ≡ true
unfolding is_blank is_lead is_space is_digit key_word order_word strip eat eats past_number digits_at number_at more_numbers
    inside_tuple is_quote past_width width_at past_order order_at past_key read_descr read_order read_shape read_key
    read_item past_close is_last taken
right_1 = refl

-- b"{'shape': (18446744073709551617,), 'descr': '<f8', 'fortran_order': False}\n"
pub right_2 : takes (123 ∷ 39 ∷ 115 ∷ 104 ∷ 97 ∷ 112 ∷ 101 ∷ 39 ∷ 58 ∷ 32 ∷ 40 ∷ 49 ∷ 56 ∷ 52 ∷ 52 ∷ 54 ∷ 55 ∷ 52 ∷ 52
    ∷ 48 ∷ 55 ∷ 51 ∷ 55 ∷ 48 ∷ 57 ∷ 53 ∷ 53 ∷ 49 ∷ 54 ∷ 49 ∷ 55 ∷ 44 ∷ 41 ∷ 44 ∷ 32 ∷ 39 ∷ 100 ∷ 101 ∷ 115 ∷ 99 ∷ 114
    ∷ 39 ∷ 58 ∷ 32 ∷ 39 ∷ 60 ∷ 102 ∷ 56 ∷ 39 ∷ 44 ∷ 32 ∷ 39 ∷ 102 ∷ 111 ∷ 114 ∷ 116 ∷ 114 ∷ 97 ∷ 110 ∷ 95 ∷ 111 ∷ 114
    ∷ 100 ∷ 101 ∷ 114 ∷ 39 ∷ 58 ∷ 32 ∷ 70 ∷ 97 ∷ 108 ∷ 115 ∷ 101 ∷ 125 ∷ 10 ∷ []) ≡ true
unfolding is_blank is_lead is_space is_digit key_word order_word strip eat eats past_number digits_at number_at more_numbers
    inside_tuple is_quote past_width width_at past_order order_at past_key read_descr read_order read_shape read_key
    read_item past_close is_last taken
right_2 = refl

-- b"{'descr': '<f8', 'fortran_order': False, 'shape': (2, 3, 4, 5, 6,)}\n"
pub right_3 : takes (123 ∷ 39 ∷ 100 ∷ 101 ∷ 115 ∷ 99 ∷ 114 ∷ 39 ∷ 58 ∷ 32 ∷ 39 ∷ 60 ∷ 102 ∷ 56 ∷ 39 ∷ 44 ∷ 32 ∷ 39 ∷ 102
    ∷ 111 ∷ 114 ∷ 116 ∷ 114 ∷ 97 ∷ 110 ∷ 95 ∷ 111 ∷ 114 ∷ 100 ∷ 101 ∷ 114 ∷ 39 ∷ 58 ∷ 32 ∷ 70 ∷ 97 ∷ 108 ∷ 115 ∷ 101
    ∷ 44 ∷ 32 ∷ 39 ∷ 115 ∷ 104 ∷ 97 ∷ 112 ∷ 101 ∷ 39 ∷ 58 ∷ 32 ∷ 40 ∷ 50 ∷ 44 ∷ 32 ∷ 51 ∷ 44 ∷ 32 ∷ 52 ∷ 44 ∷ 32 ∷ 53
    ∷ 44 ∷ 32 ∷ 54 ∷ 44 ∷ 41 ∷ 125 ∷ 10 ∷ []) ≡ true
unfolding is_blank is_lead is_space is_digit key_word order_word strip eat eats past_number digits_at number_at more_numbers
    inside_tuple is_quote past_width width_at past_order order_at past_key read_descr read_order read_shape read_key
    read_item past_close is_last taken
right_3 = refl

-- b"{'descr': '<f8', 'fortran_order': False, 'shape': (3), }\n"
pub wrong_0 : takes (123 ∷ 39 ∷ 100 ∷ 101 ∷ 115 ∷ 99 ∷ 114 ∷ 39 ∷ 58 ∷ 32 ∷ 39 ∷ 60 ∷ 102 ∷ 56 ∷ 39 ∷ 44 ∷ 32 ∷ 39 ∷ 102
    ∷ 111 ∷ 114 ∷ 116 ∷ 114 ∷ 97 ∷ 110 ∷ 95 ∷ 111 ∷ 114 ∷ 100 ∷ 101 ∷ 114 ∷ 39 ∷ 58 ∷ 32 ∷ 70 ∷ 97 ∷ 108 ∷ 115 ∷ 101
    ∷ 44 ∷ 32 ∷ 39 ∷ 115 ∷ 104 ∷ 97 ∷ 112 ∷ 101 ∷ 39 ∷ 58 ∷ 32 ∷ 40 ∷ 51 ∷ 41 ∷ 44 ∷ 32 ∷ 125 ∷ 10 ∷ []) ≡ false
unfolding is_blank is_lead is_space is_digit key_word order_word strip eat eats past_number digits_at number_at more_numbers
    inside_tuple is_quote past_width width_at past_order order_at past_key read_descr read_order read_shape read_key
    read_item past_close is_last taken
wrong_0 = refl

-- b"{'descr': '<f8', 'fortran_order': False, 'shape': (3, 4), }\t\n"
pub wrong_1 : takes (123 ∷ 39 ∷ 100 ∷ 101 ∷ 115 ∷ 99 ∷ 114 ∷ 39 ∷ 58 ∷ 32 ∷ 39 ∷ 60 ∷ 102 ∷ 56 ∷ 39 ∷ 44 ∷ 32 ∷ 39 ∷ 102
    ∷ 111 ∷ 114 ∷ 116 ∷ 114 ∷ 97 ∷ 110 ∷ 95 ∷ 111 ∷ 114 ∷ 100 ∷ 101 ∷ 114 ∷ 39 ∷ 58 ∷ 32 ∷ 70 ∷ 97 ∷ 108 ∷ 115 ∷ 101
    ∷ 44 ∷ 32 ∷ 39 ∷ 115 ∷ 104 ∷ 97 ∷ 112 ∷ 101 ∷ 39 ∷ 58 ∷ 32 ∷ 40 ∷ 51 ∷ 44 ∷ 32 ∷ 52 ∷ 41 ∷ 44 ∷ 32
    ∷ 125 ∷ 9 ∷ 10 ∷ []) ≡ false
unfolding is_blank is_lead is_space is_digit key_word order_word strip eat eats past_number digits_at number_at more_numbers
    inside_tuple is_quote past_width width_at past_order order_at past_key read_descr read_order read_shape read_key
    read_item past_close is_last taken
wrong_1 = refl

-- b"{'descr': '<f8', 'fortran_order': False, 'shape': (3, 4), }"
pub wrong_2 : takes (123 ∷ 39 ∷ 100 ∷ 101 ∷ 115 ∷ 99 ∷ 114 ∷ 39 ∷ 58 ∷ 32 ∷ 39 ∷ 60 ∷ 102 ∷ 56 ∷ 39 ∷ 44 ∷ 32 ∷ 39 ∷ 102
    ∷ 111 ∷ 114 ∷ 116 ∷ 114 ∷ 97 ∷ 110 ∷ 95 ∷ 111 ∷ 114 ∷ 100 ∷ 101 ∷ 114 ∷ 39 ∷ 58 ∷ 32 ∷ 70 ∷ 97 ∷ 108 ∷ 115 ∷ 101
    ∷ 44 ∷ 32 ∷ 39 ∷ 115 ∷ 104 ∷ 97 ∷ 112 ∷ 101 ∷ 39 ∷ 58 ∷ 32 ∷ 40 ∷ 51 ∷ 44 ∷ 32 ∷ 52 ∷ 41 ∷ 44 ∷ 32 ∷ 125 ∷ [])
    ≡ false
unfolding is_blank is_lead is_space is_digit key_word order_word strip eat eats past_number digits_at number_at more_numbers
    inside_tuple is_quote past_width width_at past_order order_at past_key read_descr read_order read_shape read_key
    read_item past_close is_last taken
wrong_2 = refl

-- b"{'descr': '<f8', 'descr': '<f8', 'shape': (3, 4), }\n"
pub wrong_3 : takes (123 ∷ 39 ∷ 100 ∷ 101 ∷ 115 ∷ 99 ∷ 114 ∷ 39 ∷ 58 ∷ 32 ∷ 39 ∷ 60 ∷ 102 ∷ 56 ∷ 39 ∷ 44 ∷ 32 ∷ 39 ∷ 100
    ∷ 101 ∷ 115 ∷ 99 ∷ 114 ∷ 39 ∷ 58 ∷ 32 ∷ 39 ∷ 60 ∷ 102 ∷ 56 ∷ 39 ∷ 44 ∷ 32 ∷ 39 ∷ 115 ∷ 104 ∷ 97 ∷ 112 ∷ 101 ∷ 39
    ∷ 58 ∷ 32 ∷ 40 ∷ 51 ∷ 44 ∷ 32 ∷ 52 ∷ 41 ∷ 44 ∷ 32 ∷ 125 ∷ 10 ∷ []) ≡ false
unfolding is_blank is_lead is_space is_digit key_word order_word strip eat eats past_number digits_at number_at more_numbers
    inside_tuple is_quote past_width width_at past_order order_at past_key read_descr read_order read_shape read_key
    read_item past_close is_last taken
wrong_3 = refl

-- b"{'descr': '>f8', 'fortran_order': False, 'shape': (3, 4), }\n"
pub wrong_4 : takes (123 ∷ 39 ∷ 100 ∷ 101 ∷ 115 ∷ 99 ∷ 114 ∷ 39 ∷ 58 ∷ 32 ∷ 39 ∷ 62 ∷ 102 ∷ 56 ∷ 39 ∷ 44 ∷ 32 ∷ 39 ∷ 102
    ∷ 111 ∷ 114 ∷ 116 ∷ 114 ∷ 97 ∷ 110 ∷ 95 ∷ 111 ∷ 114 ∷ 100 ∷ 101 ∷ 114 ∷ 39 ∷ 58 ∷ 32 ∷ 70 ∷ 97 ∷ 108 ∷ 115 ∷ 101
    ∷ 44 ∷ 32 ∷ 39 ∷ 115 ∷ 104 ∷ 97 ∷ 112 ∷ 101 ∷ 39 ∷ 58 ∷ 32 ∷ 40 ∷ 51 ∷ 44 ∷ 32 ∷ 52 ∷ 41 ∷ 44 ∷ 32 ∷ 125 ∷ 10 ∷ [])
    ≡ false
unfolding is_blank is_lead is_space is_digit key_word order_word strip eat eats past_number digits_at number_at more_numbers
    inside_tuple is_quote past_width width_at past_order order_at past_key read_descr read_order read_shape read_key
    read_item past_close is_last taken
wrong_4 = refl

-- b"{'descr': '<f8', 'fortran_order': False, 'shape': (03, 4), }\n"
pub wrong_5 : takes (123 ∷ 39 ∷ 100 ∷ 101 ∷ 115 ∷ 99 ∷ 114 ∷ 39 ∷ 58 ∷ 32 ∷ 39 ∷ 60 ∷ 102 ∷ 56 ∷ 39 ∷ 44 ∷ 32 ∷ 39 ∷ 102
    ∷ 111 ∷ 114 ∷ 116 ∷ 114 ∷ 97 ∷ 110 ∷ 95 ∷ 111 ∷ 114 ∷ 100 ∷ 101 ∷ 114 ∷ 39 ∷ 58 ∷ 32 ∷ 70 ∷ 97 ∷ 108 ∷ 115 ∷ 101
    ∷ 44 ∷ 32 ∷ 39 ∷ 115 ∷ 104 ∷ 97 ∷ 112 ∷ 101 ∷ 39 ∷ 58 ∷ 32 ∷ 40 ∷ 48 ∷ 51 ∷ 44 ∷ 32 ∷ 52 ∷ 41 ∷ 44 ∷ 32
    ∷ 125 ∷ 10 ∷ []) ≡ false
unfolding is_blank is_lead is_space is_digit key_word order_word strip eat eats past_number digits_at number_at more_numbers
    inside_tuple is_quote past_width width_at past_order order_at past_key read_descr read_order read_shape read_key
    read_item past_close is_last taken
wrong_5 = refl

-- b'{\'descr\': \'<f8", \'fortran_order\': False, \'shape\': (3, 4), }\n'
pub wrong_6 : takes (123 ∷ 39 ∷ 100 ∷ 101 ∷ 115 ∷ 99 ∷ 114 ∷ 39 ∷ 58 ∷ 32 ∷ 39 ∷ 60 ∷ 102 ∷ 56 ∷ 34 ∷ 44 ∷ 32 ∷ 39 ∷ 102
    ∷ 111 ∷ 114 ∷ 116 ∷ 114 ∷ 97 ∷ 110 ∷ 95 ∷ 111 ∷ 114 ∷ 100 ∷ 101 ∷ 114 ∷ 39 ∷ 58 ∷ 32 ∷ 70 ∷ 97 ∷ 108 ∷ 115 ∷ 101
    ∷ 44 ∷ 32 ∷ 39 ∷ 115 ∷ 104 ∷ 97 ∷ 112 ∷ 101 ∷ 39 ∷ 58 ∷ 32 ∷ 40 ∷ 51 ∷ 44 ∷ 32 ∷ 52 ∷ 41 ∷ 44 ∷ 32 ∷ 125 ∷ 10 ∷ [])
    ≡ false
unfolding is_blank is_lead is_space is_digit key_word order_word strip eat eats past_number digits_at number_at more_numbers
    inside_tuple is_quote past_width width_at past_order order_at past_key read_descr read_order read_shape read_key
    read_item past_close is_last taken
wrong_6 = refl

-- b"{'descr': '<f8', 'fortran_order': False, 'shape': (,), }\n"
pub wrong_7 : takes (123 ∷ 39 ∷ 100 ∷ 101 ∷ 115 ∷ 99 ∷ 114 ∷ 39 ∷ 58 ∷ 32 ∷ 39 ∷ 60 ∷ 102 ∷ 56 ∷ 39 ∷ 44 ∷ 32 ∷ 39 ∷ 102
    ∷ 111 ∷ 114 ∷ 116 ∷ 114 ∷ 97 ∷ 110 ∷ 95 ∷ 111 ∷ 114 ∷ 100 ∷ 101 ∷ 114 ∷ 39 ∷ 58 ∷ 32 ∷ 70 ∷ 97 ∷ 108 ∷ 115 ∷ 101
    ∷ 44 ∷ 32 ∷ 39 ∷ 115 ∷ 104 ∷ 97 ∷ 112 ∷ 101 ∷ 39 ∷ 58 ∷ 32 ∷ 40 ∷ 44 ∷ 41 ∷ 44 ∷ 32 ∷ 125 ∷ 10 ∷ []) ≡ false
unfolding is_blank is_lead is_space is_digit key_word order_word strip eat eats past_number digits_at number_at more_numbers
    inside_tuple is_quote past_width width_at past_order order_at past_key read_descr read_order read_shape read_key
    read_item past_close is_last taken
wrong_7 = refl

-- b"{'descr': '<f8', 'fortran_order': False, 'shape': (3, 4),, }\n"
pub wrong_8 : takes (123 ∷ 39 ∷ 100 ∷ 101 ∷ 115 ∷ 99 ∷ 114 ∷ 39 ∷ 58 ∷ 32 ∷ 39 ∷ 60 ∷ 102 ∷ 56 ∷ 39 ∷ 44 ∷ 32 ∷ 39 ∷ 102
    ∷ 111 ∷ 114 ∷ 116 ∷ 114 ∷ 97 ∷ 110 ∷ 95 ∷ 111 ∷ 114 ∷ 100 ∷ 101 ∷ 114 ∷ 39 ∷ 58 ∷ 32 ∷ 70 ∷ 97 ∷ 108 ∷ 115 ∷ 101
    ∷ 44 ∷ 32 ∷ 39 ∷ 115 ∷ 104 ∷ 97 ∷ 112 ∷ 101 ∷ 39 ∷ 58 ∷ 32 ∷ 40 ∷ 51 ∷ 44 ∷ 32 ∷ 52 ∷ 41 ∷ 44 ∷ 44 ∷ 32
    ∷ 125 ∷ 10 ∷ []) ≡ false
unfolding is_blank is_lead is_space is_digit key_word order_word strip eat eats past_number digits_at number_at more_numbers
    inside_tuple is_quote past_width width_at past_order order_at past_key read_descr read_order read_shape read_key
    read_item past_close is_last taken
wrong_8 = refl

-- b"{'descr': '<f8', 'fortran_order': False, 'shape': (3, 4), }\n\n"
pub wrong_9 : takes (123 ∷ 39 ∷ 100 ∷ 101 ∷ 115 ∷ 99 ∷ 114 ∷ 39 ∷ 58 ∷ 32 ∷ 39 ∷ 60 ∷ 102 ∷ 56 ∷ 39 ∷ 44 ∷ 32 ∷ 39 ∷ 102
    ∷ 111 ∷ 114 ∷ 116 ∷ 114 ∷ 97 ∷ 110 ∷ 95 ∷ 111 ∷ 114 ∷ 100 ∷ 101 ∷ 114 ∷ 39 ∷ 58 ∷ 32 ∷ 70 ∷ 97 ∷ 108 ∷ 115 ∷ 101
    ∷ 44 ∷ 32 ∷ 39 ∷ 115 ∷ 104 ∷ 97 ∷ 112 ∷ 101 ∷ 39 ∷ 58 ∷ 32 ∷ 40 ∷ 51 ∷ 44 ∷ 32 ∷ 52 ∷ 41 ∷ 44 ∷ 32
    ∷ 125 ∷ 10 ∷ 10 ∷ []) ≡ false
unfolding is_blank is_lead is_space is_digit key_word order_word strip eat eats past_number digits_at number_at more_numbers
    inside_tuple is_quote past_width width_at past_order order_at past_key read_descr read_order read_shape read_key
    read_item past_close is_last taken
wrong_9 = refl

-- b"{'descr': '<f8', 'fortran_order': False, 'shape': (3\x0b, 4), }\n"
pub wrong_10 : takes (123 ∷ 39 ∷ 100 ∷ 101 ∷ 115 ∷ 99 ∷ 114 ∷ 39 ∷ 58 ∷ 32 ∷ 39 ∷ 60 ∷ 102 ∷ 56 ∷ 39 ∷ 44 ∷ 32 ∷ 39
    ∷ 102 ∷ 111 ∷ 114 ∷ 116 ∷ 114 ∷ 97 ∷ 110 ∷ 95 ∷ 111 ∷ 114 ∷ 100 ∷ 101 ∷ 114 ∷ 39 ∷ 58 ∷ 32 ∷ 70 ∷ 97 ∷ 108 ∷ 115
    ∷ 101 ∷ 44 ∷ 32 ∷ 39 ∷ 115 ∷ 104 ∷ 97 ∷ 112 ∷ 101 ∷ 39 ∷ 58 ∷ 32 ∷ 40 ∷ 51 ∷ 11 ∷ 44 ∷ 32 ∷ 52 ∷ 41 ∷ 44 ∷ 32
    ∷ 125 ∷ 10 ∷ []) ≡ false
unfolding is_blank is_lead is_space is_digit key_word order_word strip eat eats past_number digits_at number_at more_numbers
    inside_tuple is_quote past_width width_at past_order order_at past_key read_descr read_order read_shape read_key
    read_item past_close is_last taken
wrong_10 = refl

pub shape_0 : (items 65 (123 ∷ 39 ∷ 100 ∷ 101 ∷ 115 ∷ 99 ∷ 114 ∷ 39 ∷ 58 ∷ 32 ∷ 39 ∷ 60 ∷ 102 ∷ 56 ∷ 39 ∷ 44 ∷ 32 ∷ 39
    ∷ 102 ∷ 111 ∷ 114 ∷ 116 ∷ 114 ∷ 97 ∷ 110 ∷ 95 ∷ 111 ∷ 114 ∷ 100 ∷ 101 ∷ 114 ∷ 39 ∷ 58 ∷ 32 ∷ 70 ∷ 97 ∷ 108 ∷ 115
    ∷ 101 ∷ 44 ∷ 32 ∷ 39 ∷ 115 ∷ 104 ∷ 97 ∷ 112 ∷ 101 ∷ 39 ∷ 58 ∷ 32 ∷ 40 ∷ 51 ∷ 44 ∷ 32 ∷ 52 ∷ 41 ∷ 44 ∷ 32 ∷ 125 ∷ 32
    ∷ 32 ∷ 32 ∷ 32 ∷ 32 ∷ 10 ∷ [])).shape ≡ 3 ∷ 4 ∷ []
unfolding is_blank is_lead is_space is_digit key_word order_word strip eat eats past_number digits_at number_at more_numbers
    inside_tuple is_quote past_width width_at past_order order_at past_key read_descr read_order read_shape read_key
    read_item past_close is_last taken
shape_0 = refl

pub shape_1 : (items 54 (9 ∷ 32 ∷ 123 ∷ 34 ∷ 115 ∷ 104 ∷ 97 ∷ 112 ∷ 101 ∷ 34 ∷ 58 ∷ 40 ∷ 41 ∷ 44 ∷ 39 ∷ 102 ∷ 111 ∷ 114
    ∷ 116 ∷ 114 ∷ 97 ∷ 110 ∷ 95 ∷ 111 ∷ 114 ∷ 100 ∷ 101 ∷ 114 ∷ 39 ∷ 32 ∷ 58 ∷ 9 ∷ 84 ∷ 114 ∷ 117 ∷ 101 ∷ 32 ∷ 44 ∷ 10
    ∷ 34 ∷ 100 ∷ 101 ∷ 115 ∷ 99 ∷ 114 ∷ 34 ∷ 58 ∷ 39 ∷ 60 ∷ 102 ∷ 52 ∷ 39 ∷ 125 ∷ 10 ∷ [])).shape ≡ []
unfolding is_blank is_lead is_space is_digit key_word order_word strip eat eats past_number digits_at number_at more_numbers
    inside_tuple is_quote past_width width_at past_order order_at past_key read_descr read_order read_shape read_key
    read_item past_close is_last taken
shape_1 = refl

pub shape_2 : (items 75 (123 ∷ 39 ∷ 115 ∷ 104 ∷ 97 ∷ 112 ∷ 101 ∷ 39 ∷ 58 ∷ 32 ∷ 40 ∷ 49 ∷ 56 ∷ 52 ∷ 52 ∷ 54 ∷ 55 ∷ 52
    ∷ 52 ∷ 48 ∷ 55 ∷ 51 ∷ 55 ∷ 48 ∷ 57 ∷ 53 ∷ 53 ∷ 49 ∷ 54 ∷ 49 ∷ 55 ∷ 44 ∷ 41 ∷ 44 ∷ 32 ∷ 39 ∷ 100 ∷ 101 ∷ 115 ∷ 99
    ∷ 114 ∷ 39 ∷ 58 ∷ 32 ∷ 39 ∷ 60 ∷ 102 ∷ 56 ∷ 39 ∷ 44 ∷ 32 ∷ 39 ∷ 102 ∷ 111 ∷ 114 ∷ 116 ∷ 114 ∷ 97 ∷ 110 ∷ 95 ∷ 111
    ∷ 114 ∷ 100 ∷ 101 ∷ 114 ∷ 39 ∷ 58 ∷ 32 ∷ 70 ∷ 97 ∷ 108 ∷ 115 ∷ 101 ∷ 125 ∷ 10 ∷ [])).shape ≡ 65 ∷ []
unfolding is_blank is_lead is_space is_digit key_word order_word strip eat eats past_number digits_at number_at more_numbers
    inside_tuple is_quote past_width width_at past_order order_at past_key read_descr read_order read_shape read_key
    read_item past_close is_last taken
shape_2 = refl

pub shape_3 : (items 68 (123 ∷ 39 ∷ 100 ∷ 101 ∷ 115 ∷ 99 ∷ 114 ∷ 39 ∷ 58 ∷ 32 ∷ 39 ∷ 60 ∷ 102 ∷ 56 ∷ 39 ∷ 44 ∷ 32 ∷ 39
    ∷ 102 ∷ 111 ∷ 114 ∷ 116 ∷ 114 ∷ 97 ∷ 110 ∷ 95 ∷ 111 ∷ 114 ∷ 100 ∷ 101 ∷ 114 ∷ 39 ∷ 58 ∷ 32 ∷ 70 ∷ 97 ∷ 108 ∷ 115
    ∷ 101 ∷ 44 ∷ 32 ∷ 39 ∷ 115 ∷ 104 ∷ 97 ∷ 112 ∷ 101 ∷ 39 ∷ 58 ∷ 32 ∷ 40 ∷ 50 ∷ 44 ∷ 32 ∷ 51 ∷ 44 ∷ 32 ∷ 52 ∷ 44 ∷ 32
    ∷ 53 ∷ 44 ∷ 32 ∷ 54 ∷ 44 ∷ 41 ∷ 125 ∷ 10 ∷ [])).shape ≡ 2 ∷ 3 ∷ 4 ∷ 5 ∷ 6 ∷ []
unfolding is_blank is_lead is_space is_digit key_word order_word strip eat eats past_number digits_at number_at more_numbers
    inside_tuple is_quote past_width width_at past_order order_at past_key read_descr read_order read_shape read_key
    read_item past_close is_last taken
shape_3 = refl
