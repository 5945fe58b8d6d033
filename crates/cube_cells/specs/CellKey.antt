-- The hash of the codes of cells: Multilinear-HM (Lemire and Kaser 2014), under words that SipHash makes of a drawn key.
use Rattle.std.specs.Prelude.{◌==◌, ◌+◌, ◌*◌, ◌/◌, ◌%◌, ◌^◌, ℕ, List, length, if◌then◌else◌}
use Rattle.std.specs.Int.{from_le_bytes, w64}
use Rattle.std.specs.List.{fold}
use Rattle.std.specs.Hash as fed
use Rattle.std.specs.Hash.DefaultHasher.{finish, write}
use Rattle.cube_core.specs.HashKey.{hasher_of}
use Rattle.cube_core.specs.declared.hash_key.HashKey.{HashKey}
use Rattle.cube_cells.specs.declared.cube.cell_key.CellHasher.{CellHasher}
use Rattle.cube_cells.specs.declared.cube.cell_key.CellKey.{CellKey}
use Rattle.cube_cells.specs.declared.cube.cell_key.WordPair.{WordPair}

-- the word that SipHash makes of a number under a key (this project's choice)
abbrev pub drawn_word : HashKey → ℕ → ℕ
drawn_word key number = finish (fold write (hasher_of key) (fed.u64 number))

-- the words of a number and the next (this project's choice)
abbrev pub drawn_pair : HashKey → ℕ → WordPair
drawn_pair key number = record { low = drawn_word key number; high = drawn_word key (number + 1) }

-- the words of cells under a key: those of the numbers from 0 to 8 (this project's choice)
abbrev pub key_under : HashKey → CellKey
key_under key = record {
  start = record {
    sum = drawn_word key 0;
    next = drawn_pair key 1;
    second = drawn_pair key 3;
    third = drawn_pair key 5;
    last = drawn_pair key 7;
  };
}

-- the product of two sums modulo 2^64, each of a word and half of a number's bits (Lemire and Kaser 2014)
abbrev pub mixed : WordPair → ℕ → ℕ
mixed pair number =
    ((pair.low + number % 4294967296) % 2 ^ 64 * ((pair.high + number / 4294967296) % 2 ^ 64)) % 2 ^ 64

-- a hash with one more number in its sum, which turns to the next words (Lemire and Kaser 2014)
abbrev pub taken : CellHasher → ℕ → CellHasher
taken hasher number = record {
  sum = (hasher.sum + mixed hasher.next number) % 2 ^ 64;
  next = hasher.second;
  second = hasher.third;
  third = hasher.last;
  last = hasher.next;
}

-- the higher half of a sum's bits (Lemire and Kaser 2014)
abbrev pub hash_of_sum : ℕ → ℕ
hash_of_sum sum = sum / 4294967296

-- the number that eight bytes are, the lowest first, and 0 of other bytes (this project's choice)
abbrev pub number_of : List ℕ → ℕ
number_of bytes = if length bytes == 8 then from_le_bytes w64 bytes else 0

-- what each hash under a key begins with
abbrev pub starting : CellKey → CellHasher
starting key = key.start
