use Rattle.std.proofs.Common.{◌≡◌, ◌∙◌, ◌&&◌, sym, rules, inl, not, Bor, List, ℕ, Some, None}
use Rattle.std.specs.Prelude.{if◌then◌else◌}
use Rattle.csv.specs.Records.{fields_of}
use Rattle.csv.specs.Reading.{Ready, reader_trim, reader_config, reader_state, default_config}
use Rattle.csv.specs.declared.reader.Trim.TheVariants as trim
use Rattle.csv.specs.declared.parser.State.TheVariants as st
use Rattle.cube_core.proofs.QueryLaws.{only_one-ReadRecord, option_map-if}
use Rattle.cube_core.proofs.pattern.only_record.Goals as goal

pub returns : goal.returns
returns c =
    let reader = c.from_reader-reader.result in
    let config : reader_config reader ≡ default_config = search rules in
    let trims : reader_trim reader ≡ trim.None = search rules in
    let ready : Ready reader = search rules in
    let state : reader_state reader ≡ st.StartRecord = search rules in
    let first = c.in-Ok.ensures.reads trims ready in
    let second = c.in-Ok-read_byte_record.ensures.reads (first.3 ∙ trims) (inl (c.in-Ok.ensures.ready trims)) in
    let only = only_one-ReadRecord (λ (s : Bor (List ℕ)). Some s.now) reader c.read_byte_record.new.self
    c.read_byte_record-2.new.self c.args.text.now c.in-Ok.found c.in-Ok-read_byte_record.more
    (fields_of c.read_byte_record.new.row)
    (fields_of c.read_byte_record-2.new.row) c.from_reader-reader.ensures.source config state first second in
    let answer : c.then_some.result
    ≡ (if c.in-Ok.found && not c.in-Ok-read_byte_record.more then Some c.read_byte_record.new.row else None) =
    search rules in
    rw answer
    (option_map-if fields_of (c.in-Ok.found && not c.in-Ok-read_byte_record.more) c.read_byte_record.new.row ∙ sym only)
