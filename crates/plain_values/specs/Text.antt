-- A text is its bytes.
use Rattle.std.specs.Prelude.{ℕ, List, length, nat_le, ◌==◌, if◌then◌else◌, Result, Ok, Err}
use Rattle.std.specs.List.{list_any}
use Rattle.plain_values.specs.declared.text.TextFault.{TextFault}
use Rattle.plain_values.specs.declared.text.TextFault.TheVariants as fault

-- the text of these bytes, or the first rule that they break
abbrev pub text_of : List ℕ → Result (List ℕ) TextFault
text_of bytes =
    if nat_le (length bytes) 4096
    then (if list_any (λ b. b == 0) bytes then Err fault.HasNul else Ok bytes)
    else Err fault.TooLong
