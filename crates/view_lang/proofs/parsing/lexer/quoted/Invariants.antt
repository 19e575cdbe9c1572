use Rattle.std.proofs.Common.{length, string_bytes}
use denote.Text.{Utf8}
use denote.Shadow.{shadow}
use Rattle.grammar_laws.proofs.Quotes.{Gathers}
use Rattle.view_lang.proofs.parsing.lexer.quoted.Given as goal

-- the rest is text, and its value stands behind the value so far
abbrev pub invariant-loop-piece : goal.invariant-loop-piece
invariant-loop-piece l = shadow (Utf8 l.rest) × Gathers l.text (string_bytes l.value) l.rest

abbrev pub decreases-loop-piece : goal.decreases-loop-piece
decreases-loop-piece l = length l.rest
