-- The names of std, and of values, rows and sets of them, that most proofs cite, handed on from one place. Declares nothing.
pub use Rattle.std.proofs.Math.Bool.{and-false, and-true, and_comm, or_comm}
pub use Rattle.std.proofs.Math.Nat.{mul-le-mul_left}
pub use Rattle.std.proofs.Math.Seq.{drop-cons}
pub use Rattle.std.proofs.lemmas.Bool.{and_from, and_parts, cases_Bool, cases_lt, cond-true, eq-eqb, eqb-false, eqb-true, false_from_ne_true, false≢true, le-leb, lt-leb, ltb-false, ltb-true, ne_eqb, not-false, not-true, not_from_false, not_from_true, or_cases, or_from, or_left, or_parts, or_right, true≢false}
pub use Rattle.std.proofs.lemmas.Bool.Decides.{nat_tests}
pub use Rattle.std.proofs.lemmas.Fn.{always_returns_same, filter_same}
pub use Rattle.std.proofs.lemmas.Grind.{common_steps}
pub use Rattle.std.proofs.lemmas.Iterator.{YieldsList-from_slice}
pub use Rattle.std.proofs.lemmas.Iterator.Adapters.{position_from-zero}
pub use Rattle.std.proofs.lemmas.Iterator.Search.{any_from_yields_List}
pub use Rattle.std.proofs.lemmas.List.{append-nil, drop-append-le, drop_all, drop_more, flat_map_more, get_or-set_other, get_or-set_same, get_or_default, get_or_read, length-append, length-drop, length-map, length-take, length-take-le, length_push, map-append, map_more, map_push, nil_from_length, reverse-append, take-append-drop, take-append-le, take-map, take-take, take_all, take_at, take_more, take_rest}
pub use Rattle.std.proofs.lemmas.List.Concat.{flat_map-append}
pub use Rattle.std.proofs.lemmas.List.Edits.{map_over_more}
pub use Rattle.std.proofs.lemmas.List.Elements.{Contains-append_cases, Contains-append_left, Contains-append_right, Contains-get_or}
pub use Rattle.std.proofs.lemmas.List.Filters.{dedup_is}
pub use Rattle.std.proofs.lemmas.List.Folds.{find-append, list_all-append, list_any-append, list_any_at}
pub use Rattle.std.proofs.lemmas.List.Kept.{IsStrictlySortedBy-dedup, IsStrictlySortedBy-filter}
pub use Rattle.std.proofs.lemmas.List.Quantifiers.{position-Some}
pub use Rattle.std.proofs.lemmas.List.Sorted.{IsPermutation-map, IsPermutation-trans, answers_always, list_any-IsPermutation}
pub use Rattle.std.proofs.lemmas.List.Sums.{prefix_len-le-length, sum_by-cons, sum_by-le-sum_by, sum_by-take-le, take_while-cons}
pub use Rattle.std.proofs.lemmas.Map.Iter.{iter_end}
pub use Rattle.std.proofs.lemmas.Map.Keys.{Less-from_sorted}
pub use Rattle.std.proofs.lemmas.Map.Lookups.{exact_bytes}
pub use Rattle.std.proofs.lemmas.Map.Views.{list_any-from_Contains}
pub use Rattle.std.proofs.lemmas.Nat.{mul-le}
pub use Rattle.std.proofs.lemmas.Option.{none-some, option_and_then_some, same_Some, slice_get-get_or}
pub use Rattle.std.proofs.lemmas.Result.{IfOk-at_ok, IfOk-weaker, err_from_is_err_and, on_ok_weaker}
pub use Rattle.std.proofs.lemmas.Simd.{map-map}
pub use Rattle.std.proofs.lemmas.Slice.Eq.{bytes_eq-Decides}
pub use Rattle.std.proofs.lemmas.Slice.Zip.{get_or-zip, length-zip, zip_end, zip_turn}
pub use Rattle.std.proofs.lemmas.Str.{IsCharBoundary-after_ascii, IsUtf8-from_ascii, IsUtf8-from_is_utf8, is_utf8-from_IsUtf8}
pub use Rattle.std.proofs.lemmas.Str.Parse.{IsNumeralModel, numerals_by_fold, parse_signed_minus, parse_signed_plain}
pub use Rattle.std.specs.BTreeMap.{BTreeMap, is_at}
pub use Rattle.std.specs.Bool.{then_some}
pub use Rattle.std.specs.Borrow.{Bor}
pub use Rattle.std.specs.Cmp.{Equal-is, IsTotalOrder, alike_right, both_ways, eq_by_cmp_equiv, nat_cmp_total, on_total, then_total, tied_back, tied_itself, upto}
pub use Rattle.std.specs.Cmp.Lexicographic.{bytes_decides, nat_list_cmp_total, nat_list_eq_equiv, pointwise, same_text, slice_cmp, texts_ties}
pub use Rattle.std.specs.FinMap.{IsAntisymmetric, entries, from_entries, get, keys, slice_cmp-IsAntisymmetric}
pub use Rattle.std.specs.Fmt.{signed_decimal}
unfoldable pub use Rattle.std.specs.Fmt.{digits}
pub use Rattle.std.specs.List.{AllByRecursion, AllWithin, Contains, HoldsAt, cons_option, count_by, filter, filter_map, find, flat_map, fold, insert, list_all, list_any, position, position_from, prefix_len, remove, slice_get, slice_index_or, zip}
pub use Rattle.std.specs.List.Sorted.{IsBinarySearchResult, IsNonDecreasingBy, IsPartitionPoint, IsPartitionedBy, IsPermutation, IsSearchInRange}
unfoldable pub use Rattle.std.specs.List.Sorted.{IsStrictlySortedBy}
pub use Rattle.std.specs.Map.{lookup}
pub use Rattle.std.specs.Map.Iter.{deref, deref_pair}
pub use Rattle.std.specs.Option.{option_and_then, option_cmp, option_copied, option_map, option_or, option_to_list}
pub use Rattle.std.specs.Ordering.{eq_by_cmp, is_eq, is_gt, is_le, is_lt, match_ordering, nat_cmp, on, ordering_index, ordering_reverse, ordering_then}
pub use Rattle.std.specs.Result.{OkIff, result_ok}
pub use Rattle.std.specs.Slice.Iter.{iter_rest}
pub use Rattle.std.specs.Str.{IsAscii, IsUtf8}
unfoldable pub use Rattle.std.specs.Str.{chars, is_utf8}
pub use Rattle.std.specs.Str.Parse.{ParsesSigned}
pub use Rattle.std.specs.Vec.Iter.{into_iter_items}
pub use Rattle.std.specs.declared.alloc.Global.{Global}
pub use Rattle.std.specs.declared.cmp.Ordering.{Ordering}
pub use Rattle.std.specs.declared.cmp.Ordering.TheVariants.{Equal, Greater, Less}
pub use Rattle.plain_values.proofs.Agreement.{agree_parts, parts_same}
pub use Rattle.plain_values.proofs.FitsLemmas.{fits_along, fits_cond, fits_keys, fits_same, none_fits}
pub use Rattle.plain_values.proofs.Lists.{absurd_false, all_at, any_at, any_from, find_none, find_some, from_append, from_filter, from_flat_map, from_map, in_append_left, in_append_right, in_cons, in_filter, in_flat_map, in_head, in_map, in_tail, none_found}
pub use Rattle.plain_values.proofs.Maps.{entries_rise, exact, part_rises}
pub use Rattle.plain_values.proofs.NamesLemmas.{same_is}
pub use Rattle.plain_values.proofs.Sets.{difference_made, filter_rises, items_rise, own_keys_rise, union_made}
pub use Rattle.plain_values.proofs.Tests.{first_fails, first_holds, is_less, is_tie, map_none, none_is, or_no, or_swap, place_none, same_bool, second_fails, second_holds, then_equal}
pub use Rattle.plain_values.proofs.ValueLemmas.{eq-value_cmp, int_fits}
pub use Rattle.plain_values.specs.Bytes.{is_lower, is_name, is_name_byte, is_text}
pub use Rattle.plain_values.specs.Columns.{Columns, ColumnsWithin, Fits, is_other_kind}
unfoldable pub use Rattle.plain_values.specs.Columns.{names}
pub use Rattle.plain_values.specs.Keys.{KeysRise, first_with, is_among}
pub use Rattle.plain_values.specs.Name.{renamed}
pub use Rattle.plain_values.specs.Names.{Names}
pub use Rattle.plain_values.specs.Order.{bytes_cmp}
pub use Rattle.plain_values.specs.Part.{override, restrict}
pub use Rattle.plain_values.specs.Row.{Row, pair_cmp, pair_fits, row_cmp}
unfoldable pub use Rattle.plain_values.specs.Row.{agree}
pub use Rattle.plain_values.specs.RowOrder.{row_cmp-IsAntisymmetric, row_cmp_total}
pub use Rattle.plain_values.specs.SortedMap.{entries-from_entries, from_entries-entries, keys_of, keys_rise, values_of}
pub use Rattle.plain_values.specs.SortedSet.{contains, contains-from_list, contains-items, difference, from_list, items, items-from_list, nothing_rises, same_set, union}
pub use Rattle.plain_values.specs.Value.{is_null, is_nullable, same_value, value_cmp}
unfoldable pub use Rattle.plain_values.specs.Value.{fits}
pub use Rattle.plain_values.specs.ValueOrder.{value_cmp-IsAntisymmetric}
