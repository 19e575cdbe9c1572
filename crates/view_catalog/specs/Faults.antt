-- What the faults of the code are in the definition, and when a call decides what a definition says.
use Rattle.std.specs.Prelude.{◌≡◌, ◌≢◌, Result, Ok, Err}
use Rattle.lens_specs.specs.Refusal.{too_large, lens_limit, nesting_limit, tables_limit, views_limit}
use Rattle.grammar_specs.specs.Faults as language
use Rattle.catalog_specs.specs.Judging as judging
use Rattle.lens_types.specs.Faults as types
use Rattle.lens_types.specs.declared.fault.Refused.{Refused}
use Rattle.lens_types.specs.declared.fault.Refused.TheVariants as refused
use Rattle.view_lang.specs.declared.definition.LangFault as lang
use Rattle.view_lang.specs.declared.definition.LangFault.TheVariants as lang_fault
use Rattle.view_limits.specs.declared.limit.Limit.{Limit}
use Rattle.view_limits.specs.declared.limit.Limit.TheVariants.{Columns, Lens, Predicate, Nesting, Tables, Views}
use Rattle.view_catalog.specs.declared.fault.CatalogFault.{CatalogFault}
use Rattle.view_catalog.specs.declared.fault.CatalogFault.TheVariants.{Lang, NameTaken, UnknownName, Rule, NoMemory}

-- the fault by a limit: the text exceeds three of them, and the catalogue the others
abbrev pub limit_view : Limit → judging.CatalogFault
limit_view Columns = judging.language (language.too_large language.columns)
limit_view Predicate = judging.language (language.too_large language.predicate)
limit_view Nesting = judging.language (language.too_large language.nested)
limit_view Lens = judging.rule (too_large lens_limit)
limit_view Tables = judging.rule (too_large tables_limit)
limit_view Views = judging.rule (too_large views_limit)

-- A refusal that no definition gets. It stands for want of memory, which is no fault of the definition.
abbrev pub no_fault : judging.CatalogFault
no_fault = judging.rule (too_large nesting_limit)

-- the fault of a text
abbrev pub language_view : lang.LangFault → judging.CatalogFault
language_view (lang_fault.Syntax at) = judging.language (language.syntax_at at)
language_view (lang_fault.TooLarge what) = limit_view what
language_view lang_fault.NoMemory = no_fault

-- the fault that the definition has
abbrev pub fault_view : CatalogFault → judging.CatalogFault
fault_view (Lang fault) = language_view fault
fault_view (NameTaken name) = judging.name_taken name
fault_view (UnknownName name) = judging.unknown_name name
fault_view (Rule fault) = judging.rule (types.fault_view fault)
fault_view NoMemory = no_fault

-- ---- what a call answers

-- The fault is the verdict; want of memory may stand for any verdict.
abbrev pub IsRefused : {U : Type 0} → CatalogFault → Result U judging.CatalogFault → Type 0
IsRefused why verdict = why ≢ NoMemory → verdict ≡ Err (fault_view why)

-- The value, as it is seen, is the verdict, or the fault is.
abbrev pub Decides : {T U : Type 0} → (T → U) → Result T CatalogFault → Result U judging.CatalogFault → Type 0
Decides view (Ok x) verdict = verdict ≡ Ok (view x)
Decides view (Err why) verdict = IsRefused why verdict

-- ---- the faults of the parts

-- of a text
abbrev pub of_text : lang.LangFault → CatalogFault
of_text (lang_fault.Syntax at) = Lang (lang_fault.Syntax at)
of_text (lang_fault.TooLarge what) = Lang (lang_fault.TooLarge what)
of_text lang_fault.NoMemory = NoMemory

-- of a sort or a lens that is refused
abbrev pub of_refused : {T : Type 0} → Refused T → CatalogFault
of_refused (refused.Rule fault back) = Rule fault
of_refused refused.NoMemory = NoMemory

-- the limit is exceeded
abbrev pub over_limit : Limit → CatalogFault
over_limit what = Lang (lang_fault.TooLarge what)
