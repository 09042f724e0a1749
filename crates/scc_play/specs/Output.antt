-- The text of a finished run.
use Rattle.std.specs.Prelude.{ℕ, ◌+◌, true, false, List, [], ◌∷◌, ◌++◌, length, Option, Some, None, codes}
use Rattle.std.specs.List.{flat_map}
use Rattle.std.specs.Fmt.{decimal}
use Rattle.scc_calls.specs.declared.replies.Reply.{Reply}
use Rattle.scc_calls.specs.declared.replies.Reply.TheVariants.{Inserted, Exists, Old, Key, Pair, Value, Has, Evicted, Cleared, Count}

-- a word and a number, or `none`
abbrev pub value_line : List ℕ → Option ℕ → List ℕ
value_line word None = codes "none\n"
value_line word (Some n) = word ++ (codes " " ++ (decimal n ++ codes "\n"))

-- a word and a pair, or the text for a missing pair
abbrev pub pair_line : List ℕ → Option (ℕ × ℕ) → List ℕ → List ℕ
pair_line word None missing = missing ++ codes "\n"
pair_line word (Some p) missing = word ++ (codes " " ++ (decimal p.0 ++ (codes " " ++ (decimal p.1 ++ codes "\n"))))

-- the line of a reply
abbrev pub reply_line : Reply ℕ ℕ → List ℕ
reply_line Inserted = codes "ok\n"
reply_line Cleared = codes "ok\n"
reply_line (Exists key value) = codes "exists " ++ (decimal key ++ (codes " " ++ (decimal value ++ codes "\n")))
reply_line (Old value) = value_line (codes "old") value
reply_line (Key key) = value_line (codes "key") key
reply_line (Pair pair) = pair_line (codes "pair") pair (codes "none")
reply_line (Value value) = value_line (codes "value") value
reply_line (Has true) = codes "true\n"
reply_line (Has false) = codes "false\n"
reply_line (Evicted pair) = pair_line (codes "evicted") pair (codes "ok")
reply_line (Count count) = codes "count " ++ (decimal count ++ codes "\n")

-- the line of a pair of the contents
abbrev pub content_line : ℕ × ℕ → List ℕ
content_line p = decimal p.0 ++ (codes " " ++ (decimal p.1 ++ codes "\n"))

-- the line of a set's reply, in which values are nothing; a reply that a set doesn't give has no line
abbrev pub key_reply_line : Reply ℕ (Unit {0}) → List ℕ
key_reply_line Inserted = codes "ok\n"
key_reply_line Cleared = codes "ok\n"
key_reply_line (Exists key value) = codes "exists " ++ (decimal key ++ codes "\n")
key_reply_line (Key key) = value_line (codes "key") key
key_reply_line (Has true) = codes "true\n"
key_reply_line (Has false) = codes "false\n"
key_reply_line (Count count) = codes "count " ++ (decimal count ++ codes "\n")
key_reply_line (Old value) = []
key_reply_line (Pair pair) = []
key_reply_line (Value value) = []
key_reply_line (Evicted pair) = []

-- the line of a key of the contents
abbrev pub key_line : ℕ → List ℕ
key_line k = decimal k ++ codes "\n"

-- one line for each reply, pair or key of the list
abbrev pub lines_of_all : {X : Type 0} → (X → List ℕ) → List X → List ℕ
lines_of_all line xs = flat_map line xs

-- the line of a worker, and the lines of its replies
abbrev pub worker_text : {R : Type 0} → (R → List ℕ) → ℕ → List R → List ℕ
worker_text reply worker replies = codes "worker " ++ (decimal worker ++ (codes "\n" ++ lines_of_all reply replies))

-- the lines of all workers, the first of whom has the number `worker`
abbrev pub workers_text : {R : Type 0} → (R → List ℕ) → ℕ → List (List R) → List ℕ
workers_text reply worker [] = []
workers_text reply worker (replies ∷ more) = worker_text reply worker replies ++ workers_text reply (worker + 1) more

-- the number of items, and a line for each item
abbrev pub contents_text : {X : Type 0} → (X → List ℕ) → List X → List ℕ
contents_text content items = codes "contents " ++ (decimal (length items) ++ (codes "\n" ++ lines_of_all content items))

-- the whole output: the replies of each worker, the contents, and the number of call records
abbrev pub output_of : {R X : Type 0} → (R → List ℕ) → (X → List ℕ) → List (List R) → List X → ℕ → List ℕ
output_of reply content replies items records =
    workers_text reply 0 replies ++ (contents_text content items ++ (codes "records " ++ (decimal records ++ codes "\n")))
