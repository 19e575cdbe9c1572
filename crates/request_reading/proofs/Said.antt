-- A request that is read member by member is the one that is said, where no member is wrong.
use Rattle.std.proofs.Common.{◌≡◌, ◌∙◌, ℕ, List, [], ◌∷◌, true, false, cond, ap, sym, refl, Option, Some, None, option_map, option_and_then, unwrap_or, is_some, not, find, codes, Result, Ok, Err}
use Rattle.std.specs.Option.{ok_or}
use Rattle.serde_json.specs.Data.{Data, Items, Members, no_items, null}
use Rattle.serde_json.specs.Find.{get_member, as_array, as_str}
use Rattle.lens_specs.specs.Relation.{Name}
use Rattle.server_specs.specs.Common.{Answer, bad_request, BatchEdit, Request, define, read, find_at, put, edit, preview, describe, batch, export, import, Asked, Wanted, first_other, is_wanted, least_of, lesser, asked_in, unless_wrong}
use Rattle.server_specs.specs.Request.{to_define, to_read, to_find, to_put, to_edit, to_preview, to_describe, to_list, to_batch, to_undo, to_export, to_import, edits_in, a_word, a_text, a_name, some_rows, a_version, a_value, some_edits, needed, allowed, edit_members, is_wrong, first_wrong, least_wrong, wanted, said, name_at, string_at, rows_at, data_at, version_at, edits_at, text_in, name_in, version_in, asked_by}
use Rattle.request_reading.specs.RequestKinds.{is_among, names_of}
use Rattle.request_reading.specs.Requests.{said_in, and_then, on_from}
use Rattle.request_reading.specs.Requests as there
use Rattle.request_reading.proofs.Wanted.{among_names}

-- what is found, or the first wrong member
abbrev pub found_unless : {A : Type 0} → Option (List ℕ) → A → Result A (List ℕ)
found_unless None found = Ok found
found_unless (Some name) found = Err name

-- found_unless of the first wrong member, computed while the members are read one after another
abbrev checked : {A : Type 0} → List Wanted → Members → A → Result A (List ℕ)
checked [] ms found = Ok found
checked (w ∷ ws) ms found = cond (is_wrong ms w) (Err w.name) (checked ws ms found)

checked_whole : {A : Type 0} (ws : List Wanted) (ms : Members) (found : A) → checked ws ms found ≡ found_unless (first_wrong ws ms) found
checked_whole [] ms found = refl
checked_whole (w ∷ ws) ms found =
    elim (is_wrong ms w) as (λ b. cond b (Err w.name) (checked ws ms found) ≡ found_unless (option_map (λ v. v.name) (cond b (Some w) (find (is_wrong ms) ws))) found) [
      | true ↦ refl
      | false ↦ checked_whole ws ms found
    ]

-- ---- one member

-- a member that has to be there
held : {X B : Type 0} (k : List ℕ) (x : X) (o : Option X) (next : X → Result B (List ℕ)) → and_then next (ok_or o k) ≡ cond (not (is_some o)) (Err k) (next (unwrap_or o x))
held k x None next = refl
held k x (Some y) next = refl

sent : {X B : Type 0} (f : Data → Option X) (x : X) (k : List ℕ) (o : Option Data) (next : X → Result B (List ℕ))
    → and_then next (ok_or (option_and_then f o) k) ≡ cond (elim o [ None ↦ true | Some d ↦ not (is_some (f d)) ]) (Err k) (next (unwrap_or (option_and_then f o) x))
sent f x k None next = refl
sent f x k (Some d) next = held k x (f d) next

-- a value of any shape
any_sent : {B : Type 0} (k : List ℕ) (o : Option Data) (next : Data → Result B (List ℕ)) → and_then next (ok_or o k) ≡ cond (elim o [ None ↦ true | Some d ↦ false ]) (Err k) (next (unwrap_or o null))
any_sent k None next = refl
any_sent k (Some d) next = refl

-- the version, which may be there
version_of : {B : Type 0} (o : Option ℕ) (next : Option ℕ → Result B (List ℕ)) → and_then next (ok_or (option_map Some o) (codes "on")) ≡ cond (not (is_some o)) (Err (codes "on")) (next o)
version_of None next = refl
version_of (Some n) next = refl

on_sent : {B : Type 0} (o : Option Data) (next : Option ℕ → Result B (List ℕ))
    → and_then next (on_from o) ≡ cond (elim o [ None ↦ false | Some d ↦ not (is_some (version_in d)) ]) (Err (codes "on")) (next (option_and_then version_in o))
on_sent None next = refl
on_sent (Some d) next = version_of (version_in d) next

-- the word of the request, which is right
word_is : (o : Option (List ℕ)) (a : Asked) → option_and_then asked_by o ≡ Some a → not (is_some o) ≡ false
word_is None a is = cc
word_is (Some word) a is = refl

do_is : (o : Option Data) (a : Asked) → option_and_then asked_by (option_and_then as_str o) ≡ Some a → (elim o [ None ↦ true | Some d ↦ not (is_some (as_str d)) ]) ≡ false
do_is None a is = cc
do_is (Some d) a is = word_is (as_str d) a is

-- ---- one after another

module _ (ms : Members) where
  abbrev do_word : Wanted
  do_word = needed (codes "do") a_word

  view_sent : {B : Type 0} (next : List ℕ → Result B (List ℕ)) → and_then next (ok_or (option_and_then name_in (get_member (codes "view") ms)) (codes "view"))
      ≡ cond (is_wrong ms (needed (codes "view") a_name)) (Err (codes "view")) (next (unwrap_or (option_and_then name_in (get_member (codes "view") ms)) []))
  view_sent next = sent name_in [] (codes "view") (get_member (codes "view") ms) next

  rows_sent : {B : Type 0} (k : List ℕ) (next : Items → Result B (List ℕ)) → and_then next (ok_or (option_and_then as_array (get_member k ms)) k)
      ≡ cond (is_wrong ms (needed k some_rows)) (Err k) (next (unwrap_or (option_and_then as_array (get_member k ms)) no_items))
  rows_sent k next = sent as_array no_items k (get_member k ms) next

  -- what follows a right member
  later : {B : Type 0} (w : Wanted) {x y : Result B (List ℕ)} → x ≡ y → cond (is_wrong ms w) (Err w.name) x ≡ cond (is_wrong ms w) (Err w.name) y
  later w e = ap (cond (is_wrong ms w) (Err w.name)) e

  -- the word of the request is not read again
  after_word : {B : Type 0} (ws : List Wanted) (r : B) → is_wrong ms do_word ≡ false → checked ws ms r ≡ checked (do_word ∷ ws) ms r
  after_word ws r right = sym (ap (λ b. cond b (Err (codes "do")) (checked ws ms r)) right)

  -- an edit, and the version that it rests on
  abbrev right_edit : BatchEdit × Option ℕ
  right_edit = (record { view = name_at (codes "view") ms; remove = rows_at (codes "remove") ms; add = rows_at (codes "add") ms }, version_at (codes "on") ms)

  edit_checked : is_wrong ms do_word ≡ false → there.edit_sent ms ≡ checked edit_members ms right_edit
  edit_checked right =
      rows_sent (codes "add") (λ add. and_then (λ on. and_then (λ remove. and_then (λ view. Ok (record { view = view; remove = remove; add = add }, on)) (there.name_in (codes "view") ms)) (there.rows_in (codes "remove") ms)) (there.on_in ms))
      ∙ later (needed (codes "add") some_rows)
      (on_sent (get_member (codes "on") ms) (λ on. and_then (λ remove. and_then (λ view. Ok (record { view = view; remove = remove; add = rows_at (codes "add") ms }, on)) (there.name_in (codes "view") ms)) (there.rows_in (codes "remove") ms))
      ∙ later (allowed (codes "on") a_version)
      (rows_sent (codes "remove") (λ remove. and_then (λ view. Ok (record { view = view; remove = remove; add = rows_at (codes "add") ms }, version_at (codes "on") ms)) (there.name_in (codes "view") ms))
      ∙ later (needed (codes "remove") some_rows) (view_sent (λ view. Ok (record { view = view; remove = rows_at (codes "remove") ms; add = rows_at (codes "add") ms }, version_at (codes "on") ms))))
      ∙ after_word (allowed (codes "on") a_version ∷ needed (codes "remove") some_rows ∷ needed (codes "view") a_name ∷ []) right_edit right)

  -- the request that it makes
  made : {A B : Type 0} (f : A → B) (ws : List Wanted) (a : A) → and_then (λ x. Ok (f x)) (checked ws ms a) ≡ checked ws ms (f a)
  made f [] a = refl
  made f (w ∷ ws) a =
      elim (is_wrong ms w) as (λ b. and_then (λ x. Ok (f x)) (cond b (Err w.name) (checked ws ms a)) ≡ cond b (Err w.name) (checked ws ms (f a))) [ true ↦ refl | false ↦ made f ws a ]

  edit_made : (asked : Name → Items → Items → Option ℕ → Request) → is_wrong ms do_word ≡ false
      → there.edit_in asked ms ≡ checked edit_members ms (asked (name_at (codes "view") ms) (rows_at (codes "remove") ms) (rows_at (codes "add") ms) (version_at (codes "on") ms))
  edit_made asked right =
      ap (and_then (λ sent. Ok (asked sent.0.view sent.0.remove sent.0.add sent.1))) (edit_checked right)
      ∙ made (λ sent. asked sent.0.view sent.0.remove sent.0.add sent.1) edit_members right_edit

said_checked : (a : Asked) (ms : Members) → is_wrong ms (needed (codes "do") a_word) ≡ false → said_in a ms ≡ checked (wanted a) ms (said a ms)
said_checked to_define ms right =
    sent text_in [] (codes "text") (get_member (codes "text") ms) (λ text. Ok (define text)) ∙ after_word ms (needed (codes "text") a_text ∷ []) (said to_define ms) right
said_checked to_read ms right = view_sent ms (λ view. Ok (read view)) ∙ after_word ms (needed (codes "view") a_name ∷ []) (said to_read ms) right
said_checked to_find ms right =
    sent name_in [] (codes "column") (get_member (codes "column") ms) (λ column. and_then (λ value. and_then (λ view. Ok (find_at view column value)) (there.name_in (codes "view") ms)) (there.value_in ms))
    ∙ later ms (needed (codes "column") a_name)
    (any_sent (codes "value") (get_member (codes "value") ms) (λ value. and_then (λ view. Ok (find_at view (name_at (codes "column") ms) value)) (there.name_in (codes "view") ms))
    ∙ later ms (needed (codes "value") a_value) (view_sent ms (λ view. Ok (find_at view (name_at (codes "column") ms) (data_at (codes "value") ms))))
    ∙ after_word ms (needed (codes "value") a_value ∷ needed (codes "view") a_name ∷ []) (said to_find ms) right)
said_checked to_put ms right =
    on_sent (get_member (codes "on") ms) (λ on. and_then (λ rows. and_then (λ view. Ok (put view rows on)) (there.name_in (codes "view") ms)) (there.rows_in (codes "rows") ms))
    ∙ later ms (allowed (codes "on") a_version)
    (rows_sent ms (codes "rows") (λ rows. and_then (λ view. Ok (put view rows (version_at (codes "on") ms))) (there.name_in (codes "view") ms))
    ∙ later ms (needed (codes "rows") some_rows) (view_sent ms (λ view. Ok (put view (rows_at (codes "rows") ms) (version_at (codes "on") ms)))))
    ∙ after_word ms (allowed (codes "on") a_version ∷ needed (codes "rows") some_rows ∷ needed (codes "view") a_name ∷ []) (said to_put ms) right
said_checked to_edit ms right = edit_made ms edit right
said_checked to_preview ms right = edit_made ms preview right
said_checked to_describe ms right = view_sent ms (λ view. Ok (describe view)) ∙ after_word ms (needed (codes "view") a_name ∷ []) (said to_describe ms) right
said_checked to_list ms right = after_word ms [] (said to_list ms) right
said_checked to_batch ms right =
    sent edits_in [] (codes "edits") (get_member (codes "edits") ms) (λ edits. and_then (λ on. Ok (batch edits on)) (there.on_in ms))
    ∙ later ms (needed (codes "edits") some_edits) (on_sent (get_member (codes "on") ms) (λ on. Ok (batch (edits_at (codes "edits") ms) on)))
    ∙ after_word ms (needed (codes "edits") some_edits ∷ allowed (codes "on") a_version ∷ []) (said to_batch ms) right
said_checked to_undo ms right = after_word ms [] (said to_undo ms) right
said_checked to_export ms right = view_sent ms (λ view. Ok (export view)) ∙ after_word ms (needed (codes "view") a_name ∷ []) (said to_export ms) right
said_checked to_import ms right =
    sent as_str [] (codes "csv") (get_member (codes "csv") ms) (λ csv. and_then (λ on. and_then (λ view. Ok (import view csv on)) (there.name_in (codes "view") ms)) (there.on_in ms))
    ∙ later ms (needed (codes "csv") a_word)
    (on_sent (get_member (codes "on") ms) (λ on. and_then (λ view. Ok (import view (string_at (codes "csv") ms) on)) (there.name_in (codes "view") ms))
    ∙ later ms (allowed (codes "on") a_version) (view_sent ms (λ view. Ok (import view (string_at (codes "csv") ms) (version_at (codes "on") ms))))
    ∙ after_word ms (allowed (codes "on") a_version ∷ needed (codes "view") a_name ∷ []) (said to_import ms) right)

-- ---- the whole request

-- the request, or the least of the first wrong member and the first unknown one
abbrev pub answered : Result Request (List ℕ) → Option (List ℕ) → Result Request Answer
answered (Ok r) None = Ok r
answered (Ok r) (Some unknown) = Err (bad_request unknown)
answered (Err wrong) unknown = Err (bad_request (least_of wrong unknown))

least_answered : (a : Asked) (ms : Members) (wrong unknown : Option (List ℕ)) → answered (found_unless wrong (said a ms)) unknown ≡ unless_wrong (lesser wrong unknown) a ms
least_answered a ms None None = refl
least_answered a ms None (Some name) = refl
least_answered a ms (Some name) unknown = refl

pub answered_is : (a : Asked) (ms : Members) → asked_in ms ≡ Some a → answered (said_in a ms) (first_other (is_among (names_of (wanted a))) ms) ≡ unless_wrong (least_wrong a ms) a ms
answered_is a ms is =
    let right : is_wrong ms (needed (codes "do") a_word) ≡ false = do_is (get_member (codes "do") ms) a is in
    let found : said_in a ms ≡ found_unless (first_wrong (wanted a) ms) (said a ms) = said_checked a ms right ∙ checked_whole (wanted a) ms (said a ms) in
    (λ i. answered (found i) (first_other (among_names (wanted a) i) ms)) ∙ least_answered a ms (first_wrong (wanted a) ms) (first_other (is_wanted (wanted a)) ms)
