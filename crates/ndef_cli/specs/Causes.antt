-- The lines on standard error: why a file can't be read.
use Rattle.std.specs.Prelude.{◌++◌, ℕ, codes, decimal}
use Rattle.std.specs.declared.io.ErrorKind.{ErrorKind}
use Rattle.std.specs.declared.io.ErrorKind.TheVariants.{FileTooLarge, IsADirectory, NotFound, PermissionDenied}
use Rattle.ndef_cli.specs.Quoting.{Text, quoted}

-- why a file can't be read of which at most this many bytes are, in words
abbrev pub cause_text : (most : ℕ) → ErrorKind → Text
cause_text most NotFound = codes "no such file"
cause_text most PermissionDenied = codes "permission denied"
cause_text most IsADirectory = codes "is a directory"
cause_text most FileTooLarge = codes "more than " ++ decimal most ++ codes " bytes"
cause_text most _ = codes "reading failed"

-- the line of a program for a file of this name
abbrev pub cause_line : (program : Text) → (most : ℕ) → (name : Text) → ErrorKind → Text
cause_line program most name kind =
    program ++ codes ": " ++ quoted name ++ codes ": " ++ cause_text most kind ++ codes "\n"
