-- The bytes of a block.
use Rattle.ndef_cli.specs.Quoting.{Text}
use Rattle.ndef_tool.specs.declared.block.Block.{Block}
use Rattle.ndef_tool.specs.declared.block.Block.TheVariants.{Line, Bytes}

-- the bytes of a block
abbrev pub block_text : Block → Text
block_text (Line line) = line
block_text (Bytes bytes) = bytes
