mod CountLaws
mod ServeLaws
