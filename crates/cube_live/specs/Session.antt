-- A session: the replies to its records, one after another, each over what came before it (this project's choice).
use Rattle.std.specs.Prelude.{◌≡◌, ℕ, List, [], ◌∷◌, ◌++◌, length, drop, codes, decimal, if◌then◌else◌}
use Rattle.cube_core.specs.Arrival.{Arrivals, of_sources}
use Rattle.cube_core.specs.FeedRecords.{change_in_order, is_read}
use Rattle.cube_core.specs.Layout.{Layout}
use Rattle.cube_core.specs.declared.query.QueryFault.{QueryFault}
use Rattle.cube_core.specs.declared.query.QueryFault.TheVariants as query
use Rattle.cube_live.specs.Live.{said_item}
use Rattle.cube_live.specs.Request.{request_of}
use Rattle.cube_live.specs.Shows.{Shows}
use Rattle.cube_live.specs.declared.request.Request.{Request}
use Rattle.cube_live.specs.declared.request.Request.TheVariants.{Ask, Wrong}
use Rattle.cube_live.specs.declared.request.Request.TheVariants as request
use Rattle.cube_live.specs.declared.request.RequestFault.{RequestFault}
use Rattle.cube_live.specs.declared.request.RequestFault.TheVariants.{Unknown, Shape, Query}

-- the code of what is wrong with a query
abbrev pub query_code : QueryFault → List ℕ
query_code query.Fields = codes "P1"
query_code query.Field = codes "P2"
query_code query.NotCell = codes "P3"
query_code query.NotRolled = codes "P4"
query_code query.UnknownDimension = codes "P5"
query_code query.Memory = codes "P6"
query_code query.NotGrouped = codes "P7"
query_code query.Condition = codes "P8"

-- the code of what is wrong with a record
abbrev pub code_text : RequestFault → List ℕ
code_text Unknown = codes "Q1"
code_text Shape = codes "Q2"
code_text (Query fault) = query_code fault

-- the line of a code
abbrev pub code_line : RequestFault → List ℕ
code_line fault = code_text fault ++ 10 ∷ []

-- the line that says how many bytes follow it
abbrev pub ok_line : ℕ → List ℕ
ok_line count = codes "ok " ++ decimal count ++ 10 ∷ []

-- what a record that asks this may be replied at an arrival list: nothing to a change;
-- to a question the line that counts the bytes of a text that shows it, and the text; else the line of the code
abbrev pub IsReply : Layout → Arrivals → Request → List ℕ → Type 0
IsReply s arrivals (request.Change source) reply = reply ≡ []
IsReply s arrivals (Ask question) reply =
    (text : List ℕ) × Shows question s (of_sources 64 arrivals) text × (reply ≡ ok_line (length text) ++ text)
IsReply s arrivals (Wrong fault) reply = reply ≡ code_line fault

-- an arrival list after a change of a source, a data record of these fields:
-- one item more where the record is in the schema's shard, and else the same
abbrev pub arrivals_changed : Layout → Arrivals → ℕ → List (List ℕ) → Arrivals
arrivals_changed s arrivals source fields =
    if is_read s fields then arrivals ++ (source, said_item arrivals source (change_in_order s fields)) ∷ []
    else arrivals

-- an arrival list after a record that asks this: changed by a change, and else the same
abbrev pub arrivals_by : Layout → Arrivals → Request → List (List ℕ) → Arrivals
arrivals_by s arrivals (request.Change source) fields = arrivals_changed s arrivals source (drop 1 fields)
arrivals_by s arrivals (Ask question) fields = arrivals
arrivals_by s arrivals (Wrong fault) fields = arrivals

-- an arrival list after a record
abbrev pub arrivals_with : Layout → Arrivals → List (List ℕ) → Arrivals
arrivals_with s arrivals fields = arrivals_by s arrivals (request_of s fields) fields

-- an arrival list after records
abbrev pub arrivals_after : Layout → Arrivals → List (List (List ℕ)) → Arrivals
arrivals_after s arrivals [] = arrivals
arrivals_after s arrivals (fields ∷ records) = arrivals_after s (arrivals_with s arrivals fields) records

-- this text is the replies to records from an arrival list:
-- the reply to the first at this list, followed by those to the rest from the list after it
abbrev pub AreReplies : Layout → Arrivals → List (List (List ℕ)) → List ℕ → Type 0
AreReplies s arrivals [] text = text ≡ []
AreReplies s arrivals (fields ∷ records) text = (reply : List ℕ) × (rest : List ℕ) × (text ≡ reply ++ rest)
    × IsReply s arrivals (request_of s fields) reply × AreReplies s (arrivals_with s arrivals fields) records rest
