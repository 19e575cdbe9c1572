-- Kinds of answers.
use Rattle.std.specs.Prelude.{ℕ, [], ◌∷◌, Option, Some, None}
use Rattle.server_specs.specs.EditRefusal as refusals
use Rattle.server_specs.specs.EditRefusal.{EditRefusal}
use Rattle.server_specs.specs.Answer.{Answer, defined, shown, changed, described, listed, memory, long_line, not_json, bad_request, syntax, name_taken, unknown_name, refused, bad_row, stale, off_predicate, clash, in_edit, nothing_to_undo, exported, nullable_column, bad_record, store_fault}

-- nothing is done, and the answer says why
abbrev pub IsRefusal : Answer → Type 0
IsRefusal (defined version) = ⊥
IsRefusal (shown rows version) = ⊥
IsRefusal (changed changes version) = ⊥
IsRefusal (described columns edges conjuncts tables version) = ⊥
IsRefusal (listed texts version) = ⊥
IsRefusal memory = Unit {0}
IsRefusal long_line = Unit {0}
IsRefusal not_json = Unit {0}
IsRefusal (bad_request name) = Unit {0}
IsRefusal (syntax at) = Unit {0}
IsRefusal (name_taken name) = Unit {0}
IsRefusal (unknown_name name) = Unit {0}
IsRefusal (refused reason) = Unit {0}
IsRefusal (bad_row which index name) = Unit {0}
IsRefusal (stale changed_at version) = Unit {0}
IsRefusal (off_predicate row) = Unit {0}
IsRefusal (clash edge first second) = Unit {0}
IsRefusal (in_edit edit why) = Unit {0}
IsRefusal nothing_to_undo = Unit {0}
IsRefusal (exported csv version) = ⊥
IsRefusal (nullable_column name) = Unit {0}
IsRefusal (bad_record place) = Unit {0}
IsRefusal store_fault = Unit {0}

-- the machine failed: no memory, or no store
abbrev pub IsFailure : Answer → Type 0
IsFailure (defined version) = ⊥
IsFailure (shown rows version) = ⊥
IsFailure (changed changes version) = ⊥
IsFailure (described columns edges conjuncts tables version) = ⊥
IsFailure (listed texts version) = ⊥
IsFailure memory = Unit {0}
IsFailure long_line = ⊥
IsFailure not_json = ⊥
IsFailure (bad_request name) = ⊥
IsFailure (syntax at) = ⊥
IsFailure (name_taken name) = ⊥
IsFailure (unknown_name name) = ⊥
IsFailure (refused reason) = ⊥
IsFailure (bad_row which index name) = ⊥
IsFailure (stale changed_at version) = ⊥
IsFailure (off_predicate row) = ⊥
IsFailure (clash edge first second) = ⊥
IsFailure (in_edit edit why) = ⊥
IsFailure nothing_to_undo = ⊥
IsFailure (exported csv version) = ⊥
IsFailure (nullable_column name) = ⊥
IsFailure (bad_record place) = ⊥
IsFailure store_fault = Unit {0}

-- a put, an edit, an import, a batch or an undo is accepted, or a preview says that it would be
abbrev pub IsAccepted : Answer → Type 0
IsAccepted (defined version) = ⊥
IsAccepted (shown rows version) = ⊥
IsAccepted (changed changes version) = Unit {0}
IsAccepted (described columns edges conjuncts tables version) = ⊥
IsAccepted (listed texts version) = ⊥
IsAccepted memory = ⊥
IsAccepted long_line = ⊥
IsAccepted not_json = ⊥
IsAccepted (bad_request name) = ⊥
IsAccepted (syntax at) = ⊥
IsAccepted (name_taken name) = ⊥
IsAccepted (unknown_name name) = ⊥
IsAccepted (refused reason) = ⊥
IsAccepted (bad_row which index name) = ⊥
IsAccepted (stale changed_at version) = ⊥
IsAccepted (off_predicate row) = ⊥
IsAccepted (clash edge first second) = ⊥
IsAccepted (in_edit edit why) = ⊥
IsAccepted nothing_to_undo = ⊥
IsAccepted (exported csv version) = ⊥
IsAccepted (nullable_column name) = ⊥
IsAccepted (bad_record place) = ⊥
IsAccepted store_fault = ⊥

-- a definition is taken, or a change of a table is told
abbrev pub IsChange : Answer → Type 0
IsChange (defined version) = Unit {0}
IsChange (shown rows version) = ⊥
IsChange (changed [] version) = ⊥
IsChange (changed (change ∷ changes) version) = Unit {0}
IsChange (described columns edges conjuncts tables version) = ⊥
IsChange (listed texts version) = ⊥
IsChange memory = ⊥
IsChange long_line = ⊥
IsChange not_json = ⊥
IsChange (bad_request name) = ⊥
IsChange (syntax at) = ⊥
IsChange (name_taken name) = ⊥
IsChange (unknown_name name) = ⊥
IsChange (refused reason) = ⊥
IsChange (bad_row which index name) = ⊥
IsChange (stale changed_at version) = ⊥
IsChange (off_predicate row) = ⊥
IsChange (clash edge first second) = ⊥
IsChange (in_edit edit why) = ⊥
IsChange nothing_to_undo = ⊥
IsChange (exported csv version) = ⊥
IsChange (nullable_column name) = ⊥
IsChange (bad_record place) = ⊥
IsChange store_fault = ⊥

-- the version that the refusal of an edit tells, where it tells one
abbrev pub version_of_refusal : EditRefusal → Option ℕ
version_of_refusal (refusals.unknown_name name) = None
version_of_refusal (refusals.bad_row which index name) = None
version_of_refusal (refusals.stale changed_at version) = Some version
version_of_refusal (refusals.off_predicate row) = None
version_of_refusal (refusals.clash edge first second) = None

-- the version that the answer tells, where it tells one
abbrev pub told_version : Answer → Option ℕ
told_version (defined version) = Some version
told_version (shown rows version) = Some version
told_version (changed changes version) = Some version
told_version (described columns edges conjuncts tables version) = Some version
told_version (listed texts version) = Some version
told_version memory = None
told_version long_line = None
told_version not_json = None
told_version (bad_request name) = None
told_version (syntax at) = None
told_version (name_taken name) = None
told_version (unknown_name name) = None
told_version (refused reason) = None
told_version (bad_row which index name) = None
told_version (stale changed_at version) = Some version
told_version (off_predicate row) = None
told_version (clash edge first second) = None
told_version (in_edit edit why) = version_of_refusal why
told_version nothing_to_undo = None
told_version (exported csv version) = Some version
told_version (nullable_column name) = None
told_version (bad_record place) = None
told_version store_fault = None
