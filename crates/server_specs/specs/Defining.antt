-- What a definition is answered, and the state after it.
use Rattle.std.specs.Prelude.{ℕ, ◌+◌, List, [], ◌∷◌, ◌++◌, Result, Ok, Err}
use Rattle.std.specs.FinMap as finmap
use Rattle.plain_values.specs.SortedSet as set
use Rattle.lens_specs.specs.Common.{Name, Columns}
use Rattle.lens_specs.specs.Refusal as refusal
use Rattle.lens_specs.specs.Refusal.{Limit, columns_limit, predicate_limit, nesting_limit}
use Rattle.grammar_specs.specs.Meaning.{Definition, table, view}
use Rattle.grammar_specs.specs.Faults as faults
use Rattle.grammar_specs.specs.Faults.{Fault, syntax_at}
use Rattle.grammar_laws.specs.Reading.{reading}
use Rattle.catalog_specs.specs.Catalogue.{catalogue}
use Rattle.catalog_specs.specs.Judging as judging
use Rattle.catalog_specs.specs.Judging.{CatalogFault, language, rule, judged}
use Rattle.server_specs.specs.State.{State, unchanged}
use Rattle.server_specs.specs.Answer.{Answer, defined, syntax, name_taken, unknown_name, refused}

-- the limit that a text passes
abbrev pub limit_of : faults.Limit → Limit
limit_of faults.columns = columns_limit
limit_of faults.predicate = predicate_limit
limit_of faults.nested = nesting_limit

-- the answer to a text that has a fault
abbrev pub text_answer : Fault → Answer
text_answer (syntax_at at) = syntax at
text_answer (faults.too_large what) = refused (refusal.too_large (limit_of what))

-- the answer that tells why a definition is refused
abbrev pub fault_answer : CatalogFault → Answer
fault_answer (language fault) = text_answer fault
fault_answer (judging.name_taken name) = name_taken name
fault_answer (judging.unknown_name name) = unknown_name name
fault_answer (rule first) = refused first

-- ---- definitions that are taken

-- the state with a text, and one version more
abbrev pub with_text : List ℕ → State → State
with_text text s = record s { texts = s.texts ++ text ∷ []; version = s.version + 1 }

-- the state with an empty table, last changed at the version
abbrev pub with_table : Name → Columns → State → State
with_table name columns s =
    record s { tables = finmap.insert s.tables name (record { columns = columns; rows = set.empty }); last = finmap.insert s.last name s.version }

-- the state after a definition was taken
abbrev pub with_defined : List ℕ → Definition → State → State
with_defined text (table name columns deps predicate) s = with_table name columns (with_text text s)
with_defined text (view name expr) s = with_text text s

-- a definition is taken, or refused
abbrev pub answer_definition : List ℕ → Result Definition CatalogFault → State → Answer × State
answer_definition text (Err fault) s = unchanged (fault_answer fault) s
answer_definition text (Ok definition) s = (defined (s.version + 1), with_defined text definition s)

-- what `define` is answered, and the state after it
abbrev pub define_answer : List ℕ → State → Answer × State
define_answer text s = answer_definition text (judged (catalogue s.texts) (reading text)) s
