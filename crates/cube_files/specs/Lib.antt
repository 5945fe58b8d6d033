pub mod SchemaGuess
