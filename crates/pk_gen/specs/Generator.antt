-- The program that a seed and a size make.
use Rattle.std.specs.Prelude.{ℕ, zero, suc, ◌+◌, ◌*◌, ◌/◌, ◌%◌, ◌==◌, List, [], ◌++◌, codes, if◌then◌else◌}
use Rattle.std.specs.Fmt.{decimal}

-- the linear congruential generator of the example `rand` (C99 7.20.2.2), over 31 bits: the state after a draw
abbrev pub next_state : ℕ → ℕ
next_state s = (s * 1103515245 + 12345) % 2147483648

-- what is drawn as a state is reached: its upper fifteen bits
abbrev pub drawn : ℕ → ℕ
drawn s = s / 65536

-- `for(i=0;i<COUNT;i=i+1)`
abbrev pub loop_head : (count : ℕ) → List ℕ
loop_head count = codes "for(i=0;i<" ++ decimal count ++ codes ";i=i+1)"

-- a block's line, by its kind and its count
abbrev pub block_line : (kind : ℕ) → (count : ℕ) → List ℕ
block_line kind count =
    if kind == 0 then loop_head count ++ codes "a[i]=x;\n" else
    if kind == 1 then codes "if(x<" ++ decimal count ++ codes ")x=x+1;else x=0;\n" else
    if kind == 2 then loop_head count ++ codes "if(i%2==0)x=i;\n" else
    codes "if(__VERIFIER_nondet_int())while(x<" ++ decimal count ++ codes ")x=x+1;else while(i<" ++ decimal count
    ++ codes ")i=i+1;\n"

-- the block made from a state: its kind is drawn first, then its count, from 1 to 16
abbrev pub block : ℕ → List ℕ
block s = block_line (drawn (next_state s) % 4) (1 + drawn (next_state (next_state s)) % 16)

-- as many blocks, begun at a state
unfoldable pub blocks : (count : ℕ) → (state : ℕ) → List ℕ
blocks zero s = []
blocks (suc count) s = block s ++ blocks count (next_state (next_state s))

abbrev pub opening : List ℕ
opening = codes "extern int __VERIFIER_nondet_int(void);\nint main(void){\nint a[16];\nint i=0;\nint x=0;\n"

abbrev pub closing : List ℕ
closing = codes "return 0;\n}\n"

-- the text of `gen --seed S --size N`
abbrev pub generated : (seed : ℕ) → (size : ℕ) → List ℕ
generated seed size = opening ++ blocks size seed ++ closing
